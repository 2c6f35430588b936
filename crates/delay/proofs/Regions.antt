-- The branches' cells: where they lie, and how many they are together.
use Rattle.std.proofs.Common.{◌≡◌, ℕ, zero, suc, ◌+◌, ◌-◌, ◌*◌, ◌/◌, ◌<◌, ◌≤◌, leb, sym, ap, ◌∙◌, ⊎_elim, mul-le-mul, mul-zero, zero-add, mul-add, arith, leb→le}
use native.Mathlib.Nat.{sub-zero}
use Rattle.tables.proofs.All.{agree, below}
use Rattle.std.proofs.lemmas.Bool.{cases_order, cases_lt}
use Rattle.delay.specs.Sizes.{size_of, first_cell, memory_size}
use Rattle.delay.specs.declared.branches.Direction.{Direction}
use Rattle.delay.specs.declared.branches.Direction.TheVariants.{Interleave, Deinterleave}
use Rattle.delay.specs.declared.branches.Shape.{Shape}
use Rattle.delay.specs.Ring.{Apart, Sound, chain_layout}
use Rattle.delay.specs.Branches.{sizes, firsts, layout_of}

-- 0 + 1 + .. + (n - 1)
abbrev tri : ℕ → ℕ
tri zero = 0
tri (suc n) = tri n + n

-- Half of n * (n - 1).
tri_half : (n : ℕ) → n < 256 → tri n ≡ n * (n - 1) / 2
tri_half n l = agree tri (λ n. n * (n - 1) / 2) 256 tt n l

-- The cells of a branch end where, or before, those of a later one begin.
pub regions : (d : Direction) (b s i j : ℕ) → i < j → first_cell d b s i + size_of d b s i ≤ first_cell d b s j
regions d b s i zero l = absurd (omega arith)
regions d b s i (suc j) l =
    ⊎_elim
    (λ (m : i < j). let q = regions d b s i j m in omega arith)
    (λ (m : j ≤ i). let e : i ≡ j = omega arith in rw e (omega arith))
    (cases_lt i j)

-- So the branches' cells lie apart.
pub apart : (d : Direction) (b s : ℕ) → Apart b (first_cell d b s) (size_of d b s)
unfolding Apart
apart d b s i j p q n = grind (arith, cases_order i j, regions d b s i j, regions d b s j i)

-- The first cell of a branch in each direction, and the end of the last.
first_up : (b s j : ℕ) → first_cell Interleave b s j ≡ s * tri j
first_up b s zero = sym (mul-zero s)
first_up b s (suc j) = let e = first_up b s j in let d = mul-add s (tri j) j in omega arith

first_down_more : (b s j k : ℕ) → b ≡ j + k + 1 → first_cell Deinterleave b s j + s * tri (b - j) ≡ s * tri b → first_cell Deinterleave b s (suc j) + s * tri (b - suc j) ≡ s * tri b
first_down_more b s j k e f =
    let g : b - j ≡ suc k = omega arith in
    let i : b - suc j ≡ k = omega arith in
    let m : b - 1 - j ≡ k = omega arith in
    let d = mul-add s (tri k) k in
    grind arith

first_down : (b s j : ℕ) → j ≤ b → first_cell Deinterleave b s j + s * tri (b - j) ≡ s * tri b
first_down b s zero l = rw (sub-zero b, zero-add (s * tri b))
first_down b s (suc j) l = first_down_more b s j (b - 1 - j) (omega arith) (first_down b s j (omega arith))

first_all : (d : Direction) (b s : ℕ) → first_cell d b s b ≡ s * tri b
first_all Interleave b s = first_up b s b
first_all Deinterleave b s =
    let e = first_down b s b (omega arith) in
    let f : b - b ≡ 0 = omega arith in
    let g : s * tri (b - b) ≡ s * 0 = ap (λ (n : ℕ). s * tri n) f in
    omega arith

-- All the cells.
pub together : (d : Direction) (b s : ℕ) → b ≤ 255 → first_cell d b s b ≡ memory_size b s
together d b s l = first_all d b s ∙ ap (λ (n : ℕ). s * n) (tri_half b (omega arith))

-- A branch's cells are within all of them.
pub within : (d : Direction) (b s j : ℕ) → b ≤ 255 → j < b → first_cell d b s j + size_of d b s j ≤ memory_size b s
within d b s j l m = let r = regions d b s j b m in let t = together d b s l in omega arith

-- Bounds for branches and steps up to 255.
pub pairs_small : (b : ℕ) → b ≤ 255 → b * (b - 1) / 2 ≤ 32385
pairs_small b l = leb→le _ _ (below (λ n. leb (n * (n - 1) / 2) 32385) 256 tt b (omega arith))

pub memory_small : (b s : ℕ) → b ≤ 255 → s ≤ 255 → memory_size b s ≤ 8258175
memory_small b s l m = mul-le-mul m (pairs_small b l)

-- The same of a shape.
pub turn_few : (s : Shape) (j : ℕ) → j < s.branches → firsts s j + sizes s j ≤ 8258175
turn_few s j l = let w = within s.direction s.branches s.step j s.few l in let m = memory_small s.branches s.step s.few s.short in omega arith

pub sound_of : (s : Shape) → Sound (layout_of s)
sound_of s = record { some = s.some; apart = apart s.direction s.branches s.step; within = λ j l. within s.direction s.branches s.step j s.few l }

-- The one branch of a plain delay.
pub chain_sound : (n : ℕ) → Sound (chain_layout n)
unfolding Apart
chain_sound n = record { some = omega arith; apart = λ i j p q e. absurd (e (omega arith)); within = λ j l. omega arith }
