-- What a packed line means.
use Rattle.std.specs.Prelude.{ℕ, ◌/◌, ◌%◌, Bool, false, cond, vec_items, ◌==◌}
use Rattle.line.specs.State.{State}
use Rattle.line.specs.Slots.{fits_ring}
use Rattle.line.specs.Ring.{slots}
use Rattle.line.specs.Bottom.{bottom_state}
use Rattle.slot_line.specs.declared.SlotLine.{SlotLine}
use Rattle.packed_line.specs.Packing.{unpacked, packed_slot}
use Rattle.packed_line.specs.declared.Packed.{Packed}

-- a line over slots of 312 bytes, eight symbols in three bytes
abbrev pub PackedLine : Type 0
PackedLine = SlotLine Packed ℕ (record { CELLS = 312; segment_in = unpacked })

-- the meaning of a packed line
abbrev pub packed_state : PackedLine → State
packed_state l = bottom_state (packed_slot (vec_items l.memory)) (slots l.ring)

-- whether a line can be made of n bytes and a first number
abbrev pub packed_fits : ℕ → ℕ → Bool
packed_fits n first = cond (n % 312 == 0) (fits_ring (n / 312) first) false
