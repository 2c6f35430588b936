use Rattle.mender.specs.Pivots.{HasPivots}
use Rattle.mender.proofs.locator.find.Given as goal

abbrev pub invariant-loop-j : goal.invariant-loop-j
invariant-loop-j l = HasPivots l.j l.s l.pivots.0
