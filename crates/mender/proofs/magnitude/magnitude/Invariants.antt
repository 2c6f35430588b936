use Rattle.correction.proofs.Magnitudes.{TakenOut}
use Rattle.mender.proofs.magnitude.magnitude.Given as goal

abbrev pub invariant-loop-m : goal.invariant-loop-m
invariant-loop-m l = TakenOut l.roots l.s l.x l.m l.w l.product
