use Rattle.std.proofs.Common.{sym}
use Rattle.line.proofs.Turns.{from_slot_length}
use Rattle.line.proofs.ring.Ring.waiting.Goals as goal

pub returns : goal.returns
returns c = sym (from_slot_length _ _ _)
