-- Laws of the two directions and of the plain delay, at any kind of element.
use Rattle.std.specs.Prelude.{◌≡◌, ℕ, ◌+◌, ◌-◌, ◌*◌, ◌/◌, ◌%◌, ◌<◌, ◌≤◌, cond, ◌≢◌, ◌⊎◌, List, [], length, replicate, nat_lt, slice_index_or}
use Rattle.delay.specs.Ring.{plain_delayed}
use Rattle.delay.specs.Sizes.{memory_size, interleaved, deinterleaved, interleaved_place}
use Rattle.delay.specs.State.{Came, PlainCame, Fresh}
use Rattle.delay.specs.declared.memory.Delay.{Delay}
use Rattle.delay.specs.declared.plain.PlainDelay.{PlainDelay}

-- A new memory whose cells are all z has taken nothing in.
abbrev pub ClearAt : (X : Type 0) → X → Type 0
ClearAt X z = (d : Delay) (n : ℕ) → Fresh d → Came z [] d (replicate n z)

-- A new plain delay whose cells are all z has taken nothing in.
abbrev pub PlainClearAt : (X : Type 0) → X → Type 0
PlainClearAt X z = (d : PlainDelay) (n : ℕ) → d.slot ≡ 0 → PlainCame z [] d (replicate n z)

-- Element number i leaves the interleaver at its interleaved place.
abbrev pub LeavesAt : (X : Type 0) → X → Type 0
LeavesAt X z = (b step : ℕ) (h : List X) (i : ℕ) → 0 < b → interleaved z b step h (interleaved_place b step i) ≡ slice_index_or h i z

-- The deinterleaver after the interleaver is a plain delay of step * b * (b - 1); `out` are the interleaver's first outputs for h.
abbrev pub ReturnsAt : (X : Type 0) → X → Type 0
ReturnsAt X z = (b step : ℕ) (h out : List X) → 0 < b
    → ((i : ℕ) → i < length out → slice_index_or out i z ≡ interleaved z b step h i)
    → (i : ℕ) → i < length out → deinterleaved z b step out i ≡ plain_delayed z (step * b * (b - 1)) h i

-- Two plain delays one after the other are one.
abbrev pub PlainSumAt : (X : Type 0) → X → Type 0
PlainSumAt X z = (m n : ℕ) (h out : List X)
    → ((i : ℕ) → i < length out → slice_index_or out i z ≡ plain_delayed z m h i)
    → (i : ℕ) → i < length out → plain_delayed z n out i ≡ plain_delayed z (m + n) h i

-- Television: interleaved place u holds element u - 208 * (u mod 52), and z where there is none.
abbrev pub TelevisionPlaceAt : (X : Type 0) → X → Type 0
TelevisionPlaceAt X z = (h : List X) (u : ℕ) → interleaved z 52 4 h u ≡ cond (nat_lt u (208 * (u % 52))) z (slice_index_or h (u - 208 * (u % 52)) z)

-- Television: interleaver, deinterleaver and a plain delay of 156 together delay by 10,764 elements.
abbrev pub TelevisionWayAt : (X : Type 0) → X → Type 0
TelevisionWayAt X z = (h sent back : List X)
    → ((i : ℕ) → i < length sent → slice_index_or sent i z ≡ interleaved z 52 4 h i)
    → ((i : ℕ) → i < length back → slice_index_or back i z ≡ deinterleaved z 52 4 sent i)
    → length back ≤ length sent
    → (i : ℕ) → i < length back → plain_delayed z 156 back i ≡ plain_delayed z 10764 h i

-- Television's memory has 5,304 cells, and the whole way is 52 rows of 207 elements or 13 times 828.
abbrev pub TelevisionSizes : Type 0
TelevisionSizes = (memory_size 52 4 ≡ 5304) × (52 * 207 ≡ 10764) × (13 * 828 ≡ 10764)

-- Two places at least n apart.
abbrev pub Distant : ℕ → ℕ → ℕ → Type 0
Distant n u v = (u + n ≤ v) ⊎ (v + n ≤ u)

-- Two different elements of one row of n elements lie at least b interleaved places apart.
abbrev pub RowDistance : ℕ → ℕ → ℕ → Type 0
RowDistance n b step = (i j : ℕ) → i / n ≡ j / n → i ≢ j → Distant b (interleaved_place b step i) (interleaved_place b step j)
