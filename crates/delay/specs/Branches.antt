-- The branches of one memory, by its shape.
use Rattle.std.specs.Prelude.{ℕ, ◌<◌, List, slice_index}
use Rattle.delay.specs.Ring.{Layout}
use Rattle.delay.specs.Sizes.{size_of, first_cell, memory_size}
use Rattle.delay.specs.declared.branches.Shape.{Shape}

-- The cells of branch j.
abbrev pub sizes : Shape → ℕ → ℕ
sizes s j = size_of s.direction s.branches s.step j

-- The first cell of branch j.
abbrev pub firsts : Shape → ℕ → ℕ
firsts s j = first_cell s.direction s.branches s.step j

-- The cells of all branches.
abbrev pub cells_of : Shape → ℕ
cells_of s = memory_size s.branches s.step

-- How the cells are divided.
abbrev pub layout_of : Shape → Layout
layout_of s = record { branches = s.branches; first = firsts s; size = sizes s; cells = cells_of s }

-- Each branch that has cells is at one of its slots.
abbrev pub Fit : Shape → List ℕ → Type 0
Fit s slots = (j : ℕ) → j < s.branches → 0 < sizes s j → slice_index slots j < sizes s j
