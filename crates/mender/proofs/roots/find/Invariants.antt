use Rattle.correction.proofs.Roots.{Found}
use Rattle.mender.proofs.roots.find.Given as goal

abbrev pub invariant-loop-i : goal.invariant-loop-i
invariant-loop-i l = Found l.locator.coefficients l.locator.degree l.n l.i l.at.items
