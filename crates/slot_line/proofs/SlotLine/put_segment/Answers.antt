use Rattle.std.proofs.Common.{◌∙◌, subst, arith}
use Rattle.line.specs.Ring.{slots}
use Rattle.line.specs.Segment.{Segment}
use Rattle.slot_line.proofs.Puts.{Put, put}
use Rattle.slot_line.proofs.SlotLine.put_segment.Goals as goal
use Rattle.slot_line.proofs.SlotLine.put_segment.Goals.{After-store_at}

-- what the write of the slot does to the line
did : (g : _) (c : After-store_at g) → Put c.args.self.now (slots c.put.new.self) c.store_at.new.memory c.args.segment.now
did g c =
    let s = subst Segment c.in_ok-levels.ensures c.in_ok-levels.levels.whole in
    put c.args.self.now (slots c.put.new.self) c.deref_mut.result.now c.store_at.new.memory c.args.segment.now c.in_ok-slot.slot c.in_ok-slot.ensures (omega arith) c.deref_mut.ensures.value (c.store_at.ensures.here ∙ c.in_ok-levels.ensures) c.store_at.ensures.others s

pub invariant_of-self-2 : goal.invariant_of-self-2
invariant_of-self-2 g c = let p = did g (goal.at.invariant_of-self-2 g c).After-store_at in record { whole = p.whole; levels = p.levels }

pub returns : goal.returns
returns g c = let p = did g (goal.at.returns g c).After-store_at in record { answer = p.answer; after = p.after }
