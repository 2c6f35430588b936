-- Several segments put on a line one after the other, and what the line holds of them.
use Rattle.std.specs.Prelude.{◌≡◌, ℕ, ◌+◌, ◌<◌, List, [], ◌∷◌, ◌++◌, length, drop, ℤ, slice_index_or}
use Rattle.line.specs.State.{State, Arrived, Stands, with_waiting}

-- the segments were put one after the other, and the line went from s to t
abbrev pub AllPut : State → List (List ℤ) → State → Type 0
AllPut s [] t = t ≡ s
AllPut s (f ∷ fs) t = (u : State) × Arrived s f u × AllPut u fs t

-- the line as it stands n segments later
abbrev pub later : State → ℕ → State
later s n = with_waiting s s.waiting (s.number + n)

-- the segments gs were added behind the waiting ones: each is what the line holds of a segment put, at its own number
pub record Carried (s : State) (fs gs : List (List ℤ)) (t : State) : Type 0 where
  pub many : length gs ≡ length fs
  pub after : t ≡ with_waiting s (s.waiting ++ gs) (s.number + length fs)
  pub stand : (j : ℕ) → j < length fs → Stands (later s j) (slice_index_or fs j []) (slice_index_or gs j [])

-- what was added to the waiting segments is what the line holds of the segments put
abbrev pub CarriedLaw : Type 0
CarriedLaw = (s t : State) (fs : List (List ℤ)) → AllPut s fs t → Carried s fs (drop (length s.waiting) t.waiting) t
