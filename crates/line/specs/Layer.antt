-- What a layer over a line means.
use Rattle.std.specs.Prelude.{ℕ, ◌+◌, Bool, true, cond}
use Rattle.line.specs.State.{State}

-- a layer that may alter the places of q, over a line that means s
abbrev pub layered : (ℕ → Bool) → State → State
layered q s = record { waiting = s.waiting; room = s.room; number = s.number; scheduled = λ p. cond (s.scheduled p) true (q p); layers = s.layers + 1 }
