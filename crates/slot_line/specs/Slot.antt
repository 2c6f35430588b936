-- Where a line over slots holds its segments, and which memories it can take.
use Rattle.std.specs.Prelude.{ℕ, ◌/◌, ◌%◌, Bool, false, cond, List, ℤ, ◌==◌}
use Rattle.line.specs.Slots.{block, fits_ring}

-- the segment in slot k, of w cells that hold it by `segment_in`
abbrev pub held : {X : Type 0} → ℕ → (List X → List ℤ) → List X → ℕ → List ℤ
held w segment_in memory k = segment_in (block w memory k)

-- whether a line can be made of n cells, w to a slot, and a first number
abbrev pub fits_slots : ℕ → ℕ → ℕ → Bool
fits_slots w n first = cond (n % w == 0) (fits_ring (n / w) first) false
