use Rattle.correction.proofs.Elimination.{Reduced}
use Rattle.mender.specs.declared.locator.Pivot.{Pivot}
use Rattle.mender.proofs.locator.Pivots.reduce.Given as goal

abbrev pub invariant-loop-i : goal.invariant-loop-i
invariant-loop-i l = Reduced (λ (p : Pivot). p.polynomial) (λ (p : Pivot). p.inverse) 10 l.j l.i l.s l.v l.pivot-items
