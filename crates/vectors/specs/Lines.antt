-- Lines of recorded values, compared one by one.
use Rattle.std.specs.Prelude.{◌≡◌, ℕ, ◌+◌, ◌-◌, ◌≤◌, ◌==◌, Bool, false, not, List, length, take, slice_index, slice_get, count_by, Some, Ok, Err, Result, MatchBool}
use Rattle.std.specs.Fn.{Mut, Called}
use Rattle.std.specs.List.{FoldsTo, enumerate_from}
use Rattle.std.specs.Str.Lines.{lines}
use Rattle.vectors.specs.Tally.{counted}
use denote.Ref.{Bor}

-- whether a line is a heading, which begins with #
abbrev pub is_heading : List ℕ → Bool
is_heading line = slice_index line 0 == 35

-- how many lines of a text are no headings
abbrev pub compared : List ℕ → ℕ
compared text = count_by (λ line. not (is_heading line)) (lines text)

module _ {F E : Type 0} (g : Mut F (ℕ × (Bor (List ℕ) × Unit {0})) (Result Bool E)) where
  -- a call of f at a line with this number answers r
  abbrev pub Asked : F → ℕ → List ℕ → Result Bool E → F → Type 0
  Asked f number line r f' = (shown : Bor (List ℕ)) × (shown.now ≡ line) × Called g f (number, (shown, tt)) r f'

  -- a heading changes nothing, and another line is counted by what the call answers at it and its number from 1
  abbrev pub Compares : F × (ℕ × ℕ) → ℕ × List ℕ → F × (ℕ × ℕ) → Type 0
  Compares p line q = MatchBool (is_heading line.1) (q ≡ p) ((b : Bool) × Asked p.0 (line.0 + 1) line.1 (Ok b) q.0 × (q.1 ≡ counted p.1 b))

  -- the first n lines of a text are compared, from the call f on
  abbrev pub ComparesFirst : F → List ℕ → ℕ → F × (ℕ × ℕ) → Type 0
  ComparesFirst f text n p = FoldsTo Compares (f, (0, 0)) (take n (enumerate_from 0 (lines text))) p

  -- the lines before this number are compared, and the line that has it is no heading, where the call fails with the reason
  abbrev pub StopsAt : F → List ℕ → ℕ → E → Type 0
  StopsAt f text number why =
      (1 ≤ number) × (number ≤ length (lines text)) × (p : F × (ℕ × ℕ)) × (f' : F) × (line : List ℕ)
      × ComparesFirst f text (number - 1) p × (slice_get (lines text) (number - 1) ≡ Some line) × (is_heading line ≡ false) × Asked p.0 number line (Err why) f'
