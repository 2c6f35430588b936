-- What a ring means.
use Rattle.line.specs.Slots.{Slots, from_slot}
use Rattle.line.specs.declared.ring.Ring.{Ring}

-- the slots of a ring
abbrev pub slots : Ring → Slots
slots r = record { room = r.room; taken = from_slot r.room r.head r.count; number = r.number }
