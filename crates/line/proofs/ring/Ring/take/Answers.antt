use Rattle.line.proofs.Turns.{slot_taken}
use Rattle.line.proofs.ring.Ring.take.Goals as goal

pub returns : goal.returns
returns c =
    let r = c.args.self.now in
    slot_taken r.room r.head r.count r.number c.later-self.result r.inside r.fits c.if-self-eq0.false c.later-self.ensures
