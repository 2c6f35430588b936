-- How many cells each branch has, and where an element leaves.
use Rattle.std.specs.Prelude.{ℕ, zero, suc, ◌+◌, ◌-◌, ◌*◌, ◌/◌, ◌%◌, Bool, true, false, List}
use Rattle.delay.specs.Ring.{delayed}
use Rattle.delay.specs.declared.branches.Direction.{Direction}
use Rattle.delay.specs.declared.branches.Direction.TheVariants.{Interleave, Deinterleave}

-- The cells of branch j of b: step more for each branch on, or step fewer.
abbrev pub size_of : Direction → ℕ → ℕ → ℕ → ℕ
size_of Interleave b step j = step * j
size_of Deinterleave b step j = step * (b - 1 - j)

-- Whether the later branches delay longer.
abbrev pub interleaves : Direction → Bool
interleaves Interleave = true
interleaves Deinterleave = false

-- The first cell of branch j: the branches' cells lie one after the other.
abbrev pub first_cell : Direction → ℕ → ℕ → ℕ → ℕ
first_cell direction b step zero = 0
first_cell direction b step (suc j) = first_cell direction b step j + size_of direction b step j

-- The cells of all b branches.
abbrev pub memory_size : ℕ → ℕ → ℕ
memory_size b step = step * (b * (b - 1) / 2)

-- The interleaved place of element number i.
abbrev pub interleaved_place : ℕ → ℕ → ℕ → ℕ
interleaved_place b step i = i + step * b * (i % b)

-- Output number i of the interleaver, and of the deinterleaver.
abbrev pub interleaved : {X : Type 0} → X → ℕ → ℕ → List X → ℕ → X
interleaved z b step h i = delayed z b (size_of Interleave b step) h i

abbrev pub deinterleaved : {X : Type 0} → X → ℕ → ℕ → List X → ℕ → X
deinterleaved z b step h i = delayed z b (size_of Deinterleave b step) h i
