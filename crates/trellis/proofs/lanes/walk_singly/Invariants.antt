use Rattle.trellis.proofs.lanes.walk_singly.Given as goal

abbrev pub invariant-loop-g : goal.invariant-loop-g
invariant-loop-g g l = g.C.Coder.goes l.source l.lane.first l.lane.place l.from l.g l.initial.coder l.initial.target l.coder l.target
