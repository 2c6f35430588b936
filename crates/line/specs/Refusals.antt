-- The number of each fault, and what a refusal tells.
use Rattle.std.specs.Prelude.{ℕ, ◌+◌, min}
use Rattle.line.specs.declared.LineFault.{LineFault}
use Rattle.line.specs.declared.LineFault.TheVariants.{WrongLength, NotLevel, UsedUp, NoRoom, NothingWaits}
use Rattle.line.specs.declared.LineRefusal.{LineRefusal}

-- the number by which a fault is known
abbrev pub fault_number : LineFault → ℕ
fault_number WrongLength = 1
fault_number NoRoom = 4
fault_number NothingWaits = 5
fault_number UsedUp = 6
fault_number NotLevel = 7

-- the refusal of the line that is called
abbrev pub found_here : LineFault → ℕ → LineRefusal
found_here f n = record { fault = f; next = n; depth = 0 }

-- how many more layers stand above the one that refuses, where one more layer is called
abbrev pub layers_more : LineFault → ℕ
layers_more WrongLength = 0
layers_more NotLevel = 0
layers_more UsedUp = 1
layers_more NoRoom = 1
layers_more NothingWaits = 1

-- a lower line's refusal as the layer above it tells it
abbrev pub under_a_layer : LineRefusal → LineRefusal
under_a_layer e = record { fault = e.fault; next = e.next; depth = min (e.depth + layers_more e.fault) 255 }
