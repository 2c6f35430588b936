-- Where a plain line holds its segments.
use Rattle.std.specs.Prelude.{ℕ, List, ℤ}
use Rattle.line.specs.Slots.{block}

-- the segment in slot k: symbol j is byte 832 × k + j
abbrev pub slot : List ℤ → ℕ → List ℤ
slot memory k = block 832 memory k
