-- The equations that the coefficients of a locator solve, and how far an elimination has come.
use Rattle.std.specs.Prelude.{◌≡◌, ℕ, zero, suc, ◌+◌, ◌-◌, ◌*◌, ◌<◌, ◌≤◌, List, length, Option, Some, None, is_some, count_by, bit_xor, slice_index, slice_index_or}
use Rattle.galois.specs.Field.{gf_mul, gf_power}

-- the first m coefficients of v against the syndromes from i on: what equation i asks to be 0
unfoldable pub discrepancy : ℕ → List ℕ → List ℕ → ℕ → ℕ
discrepancy zero v s i = 0
discrepancy (suc m) v s i = bit_xor (discrepancy m v s i) (gf_mul (slice_index s (i + m)) (slice_index v m))

-- the first m coefficients of v solve the first n equations
abbrev pub Solves : ℕ → List ℕ → List ℕ → ℕ → Type 0
Solves m v s n = (i : ℕ) → i < n → discrepancy m v s i ≡ 0

-- v is monic of degree j: coefficient j is 1, and those behind it are 0
abbrev pub Monic : ℕ → List ℕ → Type 0
Monic j v = (slice_index v j ≡ 1) × ((k : ℕ) → j < k → slice_index v k ≡ 0)

-- u is a pivot of equation i, of degree below j: it solves the equations before and fails this one, where the inverse is that of its discrepancy
pub record IsPivot (t j : ℕ) (s : List ℕ) (i : ℕ) (u : List ℕ) (inverse : ℕ) : Type 0 where
  pub lower : (k : ℕ) → j ≤ k → slice_index u k ≡ 0
  pub solves : Solves (t + 1) u s i
  pub fails : gf_mul (discrepancy (t + 1) u s i) inverse ≡ 1

-- j of the t equations have a pivot, which has a polynomial and an inverse
pub record Eliminated {P : Type 0} (polynomial : P → List ℕ) (inverse : P → ℕ) (t j : ℕ) (s : List ℕ) (pivots : List (Option P)) : Type 0 where
  pub long : length pivots ≡ t
  pub each : (i : ℕ) (p : P) → slice_index_or pivots i None ≡ Some p → IsPivot t j s i (polynomial p) (inverse p)
  pub count : count_by is_some pivots ≡ j

-- v is monic of degree d, at most t, and solves the first t equations
pub record Locates (t : ℕ) (s v : List ℕ) (d : ℕ) : Type 0 where
  pub few : d ≤ t
  pub monic : Monic d v
  pub solves : Solves (d + 1) v s t

-- the sum of the first m terms, taken q places on: term j times the (255 - q j)-th power of 2
unfoldable pub sum_on : ℕ → ℕ → List ℕ → ℕ
sum_on q zero e = 0
sum_on q (suc m) e = bit_xor (sum_on q m e) (gf_mul (slice_index e m) (gf_power 2 (255 - q * m)))
