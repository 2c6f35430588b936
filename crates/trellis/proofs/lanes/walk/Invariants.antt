use Rattle.std.proofs.Common.{◌+◌, ◌*◌}
use Rattle.trellis.proofs.lanes.walk.Given as goal

abbrev pub invariant-loop-k : goal.invariant-loop-k
invariant-loop-k g l = g.C.Coder.goes l.source l.lane.first l.lane.place 0 (l.head + 4 * l.k) l.fn.coder l.fn.target l.coder l.target
