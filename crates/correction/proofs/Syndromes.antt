-- Syndromes by Horner's rule, and the discrepancies of a locator in terms of them.
use Rattle.std.proofs.Common.{◌≡◌, ℕ, ◌+◌, ◌<◌, ◌≤◌, List, [], ◌∷◌, length, get_or, take, sym, ap, ◌∙◌, ap₂, length-take-le, get_or-take}
use lib.Bits.{bit_xor, xor_lt}
use lib.ListN.{get_or-map}
use Rattle.std.proofs.lemmas.List.{take_more}
use Rattle.galois.specs.Field.{gf_mul}
use Rattle.galois.proofs.Laws.{mul_lt}
use Rattle.moments.proofs.Moments as M
use Rattle.rows.specs.Code.{Bytes, row_value}
use Rattle.rows.proofs.Bytes.{Byte, to_byte, add, mul, nil, one, laws, to_byte_xor, to_byte_mul, to_byte_eq}
use Rattle.rows.proofs.Entries.{bytes_take}
use Rattle.rows.proofs.Ring.{one_mul}
use Rattle.rows.proofs.Values.{bytes, value, length_bytes, to_byte_value, value_lt, value_one, value_append, power_suc, power_zero}
use Rattle.correction.specs.Equations.{Solves}
use Rattle.correction.specs.Polynomials.{entry, polynomial}
use Rattle.correction.proofs.Discrepancies.{to_byte_discrepancy, sum_to, entry_at}

-- one byte more: the value so far times x, plus the byte
pub value_more : (row : List ℕ) (i x : ℕ) → Bytes row → i < length row
    → row_value (take (i + 1) row) x ≡ bit_xor (gf_mul (row_value (take i row) x) x) (get_or row i 0)
value_more row i x b h =
    let V : ℕ = row_value (take i row) x in
    let y : ℕ = get_or row i 0 in
    let v : V < 256 = value_lt (take i row) x (bytes_take i row b) in
    to_byte_eq (row_value (take (i + 1) row) x) (bit_xor (gf_mul V x) y) (value_lt (take (i + 1) row) x (bytes_take (i + 1) row b)) (xor_lt 8 (gf_mul V x) y (mul_lt V x v) (b i))
    (to_byte_value (take (i + 1) row) x ∙ ap (λ (l : List ℕ). value (bytes l) (to_byte x)) (take_more row i 0 h) ∙ value_append (take i row) (y ∷ []) (to_byte x)
    ∙ ap₂ add (ap₂ mul (sym (to_byte_value (take i row) x)) (power_suc (to_byte x) 0 ∙ ap (λ (p : Byte). mul p (to_byte x)) (power_zero (to_byte x)) ∙ one_mul (to_byte x))) (value_one y (to_byte x))
    ∙ sym (to_byte_xor (gf_mul V x) y ∙ ap (λ (p : Byte). add p (to_byte y)) (to_byte_mul V x)))

-- ---- the coefficients of a locator
module _ (v : List ℕ) (d : ℕ) (long : d + 1 ≤ length v) where
  pub polynomial_length : length (polynomial v d) ≡ d + 1
  polynomial_length = length_bytes (take (d + 1) v) ∙ length-take-le (d + 1) v long

  pub polynomial_at : (j : ℕ) → j < d + 1 → get_or (polynomial v d) j nil ≡ entry v j
  polynomial_at j h = get_or-map to_byte (take (d + 1) v) j 0 ∙ ap to_byte (get_or-take (d + 1) v j 0 h)

  -- the equations that it solves, as the theory has them
  pub solves_hank : (s : List ℕ) (t : ℕ) → Solves (d + 1) v s t → (i : ℕ) → i < t → M.hank Byte add mul nil one laws (polynomial v d) (entry s) i ≡ nil
  unfolding entry_at sum_to
  solves_hank s t S i h =
      M.hank_fsum Byte add mul nil one laws (polynomial v d) (entry s) i
      ∙ ap (λ (n : ℕ). sum_to n (λ j. mul (get_or (polynomial v d) j nil) (entry s (i + j)))) polynomial_length
      ∙ M.fsum_cong Byte add mul nil one laws (d + 1) (λ j. mul (get_or (polynomial v d) j nil) (entry s (i + j))) (λ j. mul (entry v j) (entry s (i + j)))
      (λ k q. ap (λ (y : Byte). mul y (entry s (i + k))) (polynomial_at k q))
      ∙ sym (to_byte_discrepancy (d + 1) v s i) ∙ ap to_byte (S i h)
