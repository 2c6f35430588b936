use Rattle.std.proofs.Common.{arith}
use Rattle.delay.proofs.Step.{took_none, took_some}
use Rattle.delay.proofs.ring.through.Goals as goal

pub returns-in-Some-clause-took : goal.returns-in-Some-clause-took
returns-in-Some-clause-took g c =
    let s = g.S.Branching in
    rw c.swap.ensures.x_after (took_some (s.layout c.args.shape) c.requires.sound (s.place c.args.turn.now c.args.slots.now) c.requires.stands c.visit.result (s.place c.visit.new.turn c.visit.new.slots)
    c.visit.ensures.visited c.args.cells.now c.args.x.now c.in-Some.cell c.swap.new.y c.in-Some.is (cc) (omega arith))

pub returns-in_default-clause-took : goal.returns-in_default-clause-took
returns-in_default-clause-took g c =
    let s = g.S.Branching in
    took_none (s.layout c.args.shape) c.requires.sound (s.place c.args.turn.now c.args.slots.now) c.requires.stands c.visit.result (s.place c.visit.new.turn c.visit.new.slots)
    c.visit.ensures.visited c.args.cells.now c.args.x.now c.in_default.is
