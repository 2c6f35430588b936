-- What a segment is.
use Rattle.std.specs.Prelude.{◌≡◌, ℕ, Bool, true, false, cond, List, [], ◌∷◌, length, ℤ, ◌==◌, All}
use Rattle.level.specs.Level.{all_levels}

-- the symbols of a segment
abbrev pub segment_length : ℕ
segment_length = 832

-- 832 symbols, each a level
pub record Segment (g : List ℤ) : Type 0 where
  pub long : length g ≡ segment_length
  pub levels : all_levels g ≡ true

-- nothing but segments
abbrev pub Segments : List (List ℤ) → Type 0
Segments gs = All Segment gs

-- whether a list of symbols is a segment
abbrev pub is_segment : List ℤ → Bool
is_segment g = cond (length g == segment_length) (all_levels g) false

-- whether all are segments
abbrev pub all_segments : List (List ℤ) → Bool
all_segments [] = true
all_segments (g ∷ gs) = cond (is_segment g) (all_segments gs) false
