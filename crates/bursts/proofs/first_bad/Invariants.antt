use Rattle.std.proofs.Common.{◌≡◌, drop}
use Rattle.bursts.specs.Bursts.{first_bad_after}
use Rattle.bursts.proofs.first_bad.Given as goal

abbrev pub invariant-loop-i : goal.invariant-loop-i
invariant-loop-i l = first_bad_after 0 0 l.list ≡ first_bad_after l.end l.i (drop l.i l.list)
