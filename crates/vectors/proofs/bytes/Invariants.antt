use Rattle.std.proofs.Common.{◌≡◌, drop, vec_items}
use Rattle.vectors.specs.Hex.{hex_value}
use Rattle.vectors.proofs.Steps.{before, pairs_value}
use Rattle.vectors.proofs.bytes.Given as goal

abbrev pub invariant-loop-high : goal.invariant-loop-high
invariant-loop-high l = hex_value l.digits ≡ before (vec_items l.out) (pairs_value (drop l.high-index l.pairs))
