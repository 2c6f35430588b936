use Rattle.std.proofs.Common.{◌≡◌, length}
use Rattle.correction.specs.Equations.{discrepancy}
use Rattle.mender.proofs.locator.discrepancy_of.Given as goal

abbrev pub invariant-loop-syndrome : goal.invariant-loop-syndrome
invariant-loop-syndrome l = l.sum ≡ discrepancy (length l.yielded) l.v l.s 0
