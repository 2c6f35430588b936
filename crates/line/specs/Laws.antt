-- What follows from the contracts of a line over several calls.
use Rattle.std.specs.Prelude.{◌≡◌, ℕ, ◌+◌, ◌*◌, ◌<◌, false, List, [], ◌∷◌, ◌++◌, length, ℤ}
use Rattle.line.specs.Segment.{segment_length}
use Rattle.line.specs.State.{State, Stands, Arrived, Taken, with_waiting}

-- takes one after the other gave the segments in this order, and lead from s to t
abbrev pub Takes : State → List (List ℤ) → State → Type 0
Takes s [] t = t ≡ s
Takes s (g ∷ gs) t = (u : State) × Taken s g u × Takes u gs t

-- the segments gs, which waited before f was put, and after them the segment f as it may come out
pub record PutAndTaken (s : State) (f : List ℤ) (gs : List (List ℤ)) (u : State) : Type 0 where
  pub came : List ℤ
  pub stands : Stands s f came
  pub order : gs ≡ s.waiting ++ came ∷ []
  pub emptied : u ≡ with_waiting s [] (s.number + 1)

-- the laws of every line
pub record LineLaws : Type 0 where
  pub put_then_taken : (s t u : State) (f : List ℤ) (gs : List (List ℤ)) → Arrived s f t → Takes t gs u → length gs ≡ length s.waiting + 1 → PutAndTaken s f gs u
  pub unscheduled_comes_as_it_is : (s t : State) (f : List ℤ) → length f ≡ segment_length → Arrived s f t → ((i : ℕ) → i < segment_length → s.scheduled (segment_length * s.number + i) ≡ false) → t.waiting ≡ s.waiting ++ f ∷ []
  pub put_keeps_schedule : (s t : State) (f : List ℤ) → Arrived s f t → t.scheduled ≡ s.scheduled
  pub take_keeps_schedule : (s t : State) (g : List ℤ) → Taken s g t → t.scheduled ≡ s.scheduled
