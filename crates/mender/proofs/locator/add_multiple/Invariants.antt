use Rattle.std.proofs.Common.{◌≡◌, ℕ, ◌<◌, ◌≤◌, get_or}
use lib.Bits.{bit_xor}
use Rattle.galois.specs.Field.{gf_mul}
use Rattle.mender.proofs.locator.add_multiple.Given as goal

abbrev pub invariant-loop-k : goal.invariant-loop-k
invariant-loop-k l = record {
  done : (k : ℕ) → k < l.k → get_or l.v k 0 ≡ bit_xor (get_or l.initial.v k 0) (gf_mul l.c (get_or l.u k 0));
  left : (k : ℕ) → l.k ≤ k → get_or l.v k 0 ≡ get_or l.initial.v k 0;
}
