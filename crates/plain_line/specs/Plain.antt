-- What a plain line means.
use Rattle.std.specs.Prelude.{ℕ, ◌/◌, ◌%◌, Bool, false, cond, vec_items, ℤ, ◌==◌}
use Rattle.line.specs.State.{State}
use Rattle.line.specs.Slots.{fits_ring}
use Rattle.line.specs.Ring.{slots}
use Rattle.line.specs.Bottom.{bottom_state}
use Rattle.slot_line.specs.declared.SlotLine.{SlotLine}
use Rattle.plain_line.specs.Slot.{slot}
use Rattle.plain_line.specs.declared.Plain.{Plain}

-- a line over slots of 832 bytes, each a symbol
abbrev pub PlainLine : Type 0
PlainLine = SlotLine Plain ℤ (record { CELLS = 832; segment_in = λ cells. cells })

-- the meaning of a plain line
abbrev pub plain_state : PlainLine → State
plain_state l = bottom_state (slot (vec_items l.memory)) (slots l.ring)

-- whether a line can be made of n bytes and a first number
abbrev pub plain_fits : ℕ → ℕ → Bool
plain_fits n first = cond (n % 832 == 0) (fits_ring (n / 832) first) false
