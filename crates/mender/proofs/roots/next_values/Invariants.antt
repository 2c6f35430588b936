use Rattle.std.proofs.Common.{◌≡◌, ℕ, ◌-◌, ◌*◌, ◌<◌, ◌≤◌, get_or}
use Rattle.galois.specs.Field.{gf_mul, gf_power}
use Rattle.correction.specs.Equations.{sum_on}
use Rattle.mender.proofs.roots.next_values.Given as goal

abbrev pub invariant-loop-j : goal.invariant-loop-j
invariant-loop-j l = record {
  one : l.one ≡ sum_on 1 l.j l.initial.e;
  two : l.two ≡ sum_on 2 l.j l.initial.e;
  three : l.three ≡ sum_on 3 l.j l.initial.e;
  four : l.four ≡ sum_on 4 l.j l.initial.e;
  on : (k : ℕ) → k < l.j → get_or l.e k 0 ≡ gf_mul (get_or l.initial.e k 0) (gf_power 2 (255 - 4 * k));
  left : (k : ℕ) → l.j ≤ k → get_or l.e k 0 ≡ get_or l.initial.e k 0;
}
