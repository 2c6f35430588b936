use Rattle.delay.specs.Ring.{Stands}
use Rattle.delay.proofs.Calls.{Running}
use Rattle.delay.proofs.ring.pass.Given as goal

abbrev pub invariant-loop-x : goal.invariant-loop-x
invariant-loop-x g l = let s = g.S.Branching in record {
  placed : s.placed l.shape l.now;
  stands : Stands (s.layout l.shape) (s.place l.now l.slots);
  running : Running (s.layout l.shape) (s.place l.initial.now l.initial.slots) l.initial.cells l.initial.part l.x-index (s.place l.now l.slots) l.cells l.part;
}
