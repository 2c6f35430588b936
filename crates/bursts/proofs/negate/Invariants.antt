use Rattle.std.proofs.Common.{◌≡◌, ◌++◌, map, take, drop, neg_ℤ}
use Rattle.bursts.proofs.negate.Given as goal

abbrev pub invariant-loop-i : goal.invariant-loop-i
invariant-loop-i l = l.out ≡ map neg_ℤ (take l.i l.levels) ++ drop l.i l.initial.out
