-- What a line at the bottom means: segments in slots, and nothing scheduled.
use Rattle.std.specs.Prelude.{ℕ, false, List, [], map, ℤ}
use Rattle.line.specs.State.{State}
use Rattle.line.specs.Slots.{Slots}

-- the line whose slot k holds the segment `held k`
abbrev pub bottom_state : (ℕ → List ℤ) → Slots → State
bottom_state held s = record { waiting = map held s.taken; room = s.room; number = s.number; scheduled = λ _. false; layers = 0 }

-- the line with nothing waiting
abbrev pub new_state : ℕ → ℕ → State
new_state room first = record { waiting = []; room = room; number = first; scheduled = λ _. false; layers = 0 }
