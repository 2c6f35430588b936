use Rattle.std.proofs.Common.{◌≡◌, ℕ, ◌<◌, get_or, take}
use Rattle.galois.specs.Field.{gf_power}
use Rattle.rows.specs.Code.{row_value}
use Rattle.mender.proofs.syndromes.syndromes.Given as goal

abbrev pub invariant-loop-byte : goal.invariant-loop-byte
invariant-loop-byte l = (k : ℕ) → k < 20 → get_or l.s k 0 ≡ row_value (take l.byte-index l.row) (gf_power 2 k)
