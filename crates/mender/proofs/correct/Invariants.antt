use Rattle.rows.proofs.Values.{bytes}
use Rattle.correction.specs.Polynomials.{entry, polynomial, correction_at}
use Rattle.correction.proofs.Corrected.{CorrectedTo}
use Rattle.mender.proofs.correct.Given as goal

abbrev pub invariant-loop-i : goal.invariant-loop-i
invariant-loop-i l = CorrectedTo (correction_at (polynomial l.locator.coefficients l.locator.degree) (bytes l.roots.at.items) (entry l.s)) l.initial.row l.i l.row
