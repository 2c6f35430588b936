-- What a line means, and what a put and a take do to it.
use Rattle.std.specs.Prelude.{◌≡◌, ℕ, ◌+◌, ◌*◌, ◌^◌, ◌<◌, ◌≤◌, Bool, false, List, [], ◌∷◌, ◌++◌, length, ℤ, pos, slice_index_or}
use Rattle.line.specs.Segment.{Segment, Segments, segment_length}

-- the meaning of a line
pub record State : Type 0 where
  -- the waiting segments, oldest first
  pub waiting : List (List ℤ)
  -- how many segments may wait
  pub room : ℕ
  -- the number of the next segment
  pub number : ℕ
  -- whether the symbol at a place may be altered; the place of a symbol is 832 × its segment's number + its position
  pub scheduled : ℕ → Bool
  -- how many layers stand above the bottom line
  pub layers : ℕ

-- what holds of every line at all times
pub record Sound (s : State) : Type 0 where
  pub room_least : 1 ≤ s.room
  pub room_most : s.room ≤ 64
  pub fits : length s.waiting ≤ s.room
  pub numbered : s.number ≤ 2 ^ 40
  pub segments : Segments s.waiting

-- the same line with other waiting segments and another next number
abbrev pub with_waiting : State → List (List ℤ) → ℕ → State
with_waiting s ws n = record { waiting = ws; room = s.room; number = n; scheduled = s.scheduled; layers = s.layers }

-- g is the segment f as it may come out of the line: a segment, and the same but at scheduled places
pub record Stands (s : State) (f g : List ℤ) : Type 0 where
  pub segment : Segment g
  pub same : (i : ℕ) → i < segment_length → s.scheduled (segment_length * s.number + i) ≡ false → slice_index_or g i (pos 0) ≡ slice_index_or f i (pos 0)

-- s was put the segment f and is now t
pub record Arrived (s : State) (f : List ℤ) (t : State) : Type 0 where
  pub came : List ℤ
  pub stands : Stands s f came
  pub after : t ≡ with_waiting s (s.waiting ++ came ∷ []) (s.number + 1)

-- from s the segment `out` was taken, and it is now t
pub record Taken (s : State) (out : List ℤ) (t : State) : Type 0 where
  pub rest : List (List ℤ)
  pub oldest : s.waiting ≡ out ∷ rest
  pub after : t ≡ with_waiting s rest s.number
