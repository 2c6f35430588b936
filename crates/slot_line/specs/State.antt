-- What a line over slots means.
use Rattle.std.specs.Prelude.{vec_items}
use Rattle.line.specs.State.{State}
use Rattle.line.specs.Ring.{slots}
use Rattle.line.specs.Bottom.{bottom_state}
use Rattle.slot_line.specs.Slot.{held}
use Rattle.slot_line.specs.declared.SlotLine.{SlotLine}
use Rattle.slot_line.specs.declared.Layout.{Ghosts}

-- the meaning of a line over slots
abbrev pub slot_state : {S C : Type 0} {layout : Ghosts S C} → SlotLine S C layout → State
slot_state {layout} l = bottom_state (held layout.CELLS layout.segment_in (vec_items l.memory)) (slots l.ring)
