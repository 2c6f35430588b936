-- The two tables hold what they should, and a sum of logarithms gives the place of the product.
use Rattle.std.proofs.Common.{◌≡◌, ℕ, zero, suc, ◌+◌, ◌-◌, ◌<◌, ◌≤◌, List, ◌∷◌, ◌++◌, map, get_or, replicate, sym, refl, ap, ◌∙◌, subst, ap₂, le_of_suc-le-suc, not-suc-le-zero, zero-lt-suc, zero-add, arith, lit≤}
use native.Mathlib.Decide.{dec_lt}
use lib.ListN.{get_or-replicate}
use Rattle.std.specs.List.{range_with_len}
use Rattle.std.proofs.lemmas.List.FromFn.{get_or-map-range_with_len}
use Rattle.std.proofs.lemmas.List.{get_or_append_left, get_or-append_right}
use Rattle.std.proofs.lemmas.Bool.{cond_below, cond_above}
use Rattle.galois.specs.Field.{times_x, gf_mul, gf_power}
use Rattle.galois.specs.Tables.{power_or_zero, Logarithm}
use Rattle.galois.proofs.Product.{mul_zero_left, mul_zero_right}
use Rattle.galois.proofs.Powers.{two_power_suc, two_power_add, two_power_255, log, log_lt, two_power_log}
use Rattle.tables.proofs.Entries.{iterates, iterate}

below_510 : (k : ℕ) → k < 510 → power_or_zero k ≡ gf_power 2 k
below_510 k h = sym (cond_below k 510 (gf_power 2 k) 0 h)

from_510 : (k : ℕ) → 510 ≤ k → power_or_zero k ≡ 0
from_510 k h = sym (cond_above k 510 (gf_power 2 k) 0 0 h refl)

-- the table of powers, computed
unfoldable pub powers : List ℕ
powers = iterates times_x 1 510 ++ replicate 511 0

pub powers_entry : (k : ℕ) → k < 1021 → get_or powers k 0 ≡ power_or_zero k
unfolding powers gf_power
powers_entry k h = elim (dec_lt k 510) [ yes l ↦ low l | no n ↦ high (omega arith) ]
  where
    low : k < 510 → get_or powers k 0 ≡ power_or_zero k
    low l =
        get_or_append_left (iterates times_x 1 510) (replicate 511 0) 0 k l ∙ iterate (gf_power 2) times_x two_power_suc 510 0 k l
        ∙ ap (gf_power 2) (zero-add k) ∙ sym (below_510 k l)

    high : 510 ≤ k → get_or powers k 0 ≡ power_or_zero k
    high l =
        get_or-append_right (iterates times_x 1 510) (replicate 511 0) 510 k 0 refl l ∙ get_or-replicate 511 (k - 510) 0 0 (omega arith)
        ∙ sym (from_510 k l)

-- the table of logarithms, computed
unfoldable pub logarithms : List ℕ
logarithms = 510 ∷ map log (range_with_len 1 255)

pub logarithms_entry : (a : ℕ) → a < 256 → Logarithm a (get_or logarithms a 0)
unfolding logarithms
logarithms_entry zero h = record { of_zero = λ e. refl; back = λ p. absurd (not-suc-le-zero p); small = λ p. absurd (not-suc-le-zero p); most = lit≤ tt }
logarithms_entry (suc a) h =
    let l : log (suc a) < 255 = log_lt (suc a) (zero-lt-suc a) h in
    subst (Logarithm (suc a)) (sym (get_or-map-range_with_len log 1 255 a (suc a) 0 (le_of_suc-le-suc h) (omega arith)))
    (record { of_zero = λ z. absurd (omega arith); back = λ p. two_power_log (suc a) p h; small = λ p. l; most = omega arith })

-- a times the k-th power of 2 stands in the table of powers at the sum of a's logarithm and k
pub scaled_entry : (a k l : ℕ) → Logarithm a l → k ≤ 255 → power_or_zero (l + k) ≡ gf_mul a (gf_power 2 k)
scaled_entry zero k l r h = let z : l ≡ 510 = r.of_zero refl in from_510 (l + k) (omega arith) ∙ sym (mul_zero_left (gf_power 2 k))
scaled_entry (suc a) k l r h =
    let s : l < 255 = r.small (zero-lt-suc a) in
    below_510 (l + k) (omega arith) ∙ sym (two_power_add l k) ∙ ap (λ (x : ℕ). gf_mul x (gf_power 2 k)) (r.back (zero-lt-suc a))

-- the product of a and b stands in the table of powers at the sum of their logarithms
pub product_entry : (a b l m : ℕ) → Logarithm a l → Logarithm b m → power_or_zero (l + m) ≡ gf_mul a b
product_entry a zero l m r s = let z : m ≡ 510 = s.of_zero refl in from_510 (l + m) (omega arith) ∙ sym (mul_zero_right a)
product_entry a (suc b) l m r s =
    let h : m < 255 = s.small (zero-lt-suc b) in
    scaled_entry a m l r (omega arith) ∙ ap (gf_mul a) (s.back (zero-lt-suc b))

-- the inverse of a nonzero byte stands in the table of powers at 255 less its logarithm
pub inverse_entry : (a l : ℕ) → 0 < a → Logarithm a l → gf_mul a (power_or_zero (255 - l)) ≡ 1
inverse_entry a l p r =
    let s : l < 255 = r.small p in
    let e : l + (255 - l) ≡ 255 = omega arith in
    ap₂ gf_mul (sym (r.back p)) (below_510 (255 - l) (omega arith)) ∙ two_power_add l (255 - l) ∙ ap (gf_power 2) e ∙ two_power_255
