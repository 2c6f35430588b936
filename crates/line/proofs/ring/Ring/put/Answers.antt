use Rattle.std.proofs.Common.{refl, arith}
use Rattle.line.proofs.Turns.{from_slot_length, slot_put}
use Rattle.line.proofs.ring.Ring.put.Goals as goal

pub returns-then-self : goal.returns-then-self
returns-then-self c =
    let r = c.args.self.now in
    let n = from_slot_length r.room r.head r.count in (grind arith, refl)

pub returns : goal.returns
returns c =
    let r = c.args.self.now in
    slot_put r.room r.head r.count r.number c.later-slot.result (omega arith) (omega arith) (omega arith) c.later-slot.ensures
