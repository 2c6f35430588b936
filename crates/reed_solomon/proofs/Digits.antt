-- Numbers as rows of bytes: sums, moves to higher places, and a number in two parts.
use Rattle.std.proofs.Common.{◌≡◌, ℕ, zero, suc, ◌+◌, ◌-◌, ◌*◌, ◌/◌, ◌%◌, ◌^◌, ◌<◌, ◌≤◌, List, [], ◌∷◌, ◌++◌, length, replicate, sym, refl, ap, ◌∙◌, ap₂, suc-add, zero-add, arith, lit<, pow-add, shr-shr}
use native.Mathlib.Nat.{mul-mod_left, zero-div}
use lib.Arith.{digits_lt, digits_div, digits_mod}
use lib.Bits.{bit_xor, xor_shr, xor_mod}
use lib.Pow.{field, mod-mod-pow, shl-shr}
use Rattle.rows.specs.Code.{Bytes}
use Rattle.rows.specs.Parity.{row_sum}
use Rattle.reed_solomon.specs.Held.{digits}

-- n bytes
pub length_digits : (n w : ℕ) → length (digits n w) ≡ n
unfolding digits
length_digits zero w = refl
length_digits (suc n) w = ap suc (length_digits n w)

-- the bytes of an exclusive or
pub digits_xor : (n a b : ℕ) → digits n (bit_xor a b) ≡ row_sum (digits n a) (digits n b)
unfolding digits row_sum
digits_xor zero a b = refl
digits_xor (suc n) a b =
    ap₂ (λ (x : ℕ) (xs : List ℕ). x ∷ xs) (ap (λ (x : ℕ). x % 256) (xor_shr a b (8 * n)) ∙ xor_mod (a / 2 ^ (8 * n)) (b / 2 ^ (8 * n)) 8) (digits_xor n a b)

-- a byte below the place n
low_byte : (w n k : ℕ) → k < n → w % 2 ^ (8 * n) / 2 ^ (8 * k) % 256 ≡ w / 2 ^ (8 * k) % 256
low_byte w n k h =
    let m : ℕ = 8 * n - 8 * k - 8 in
    let t : m + 8 + 8 * k ≡ 8 * n = omega arith in
    ap (λ (e : ℕ). w % 2 ^ e / 2 ^ (8 * k) % 256) (sym t) ∙ ap (λ (x : ℕ). x % 256) (field w (m + 8) (8 * k)) ∙ mod-mod-pow (w / 2 ^ (8 * k)) m 8

-- the low bytes do not change with what stands above them
pub digits_below : (n k w : ℕ) → k ≤ n → digits k (w % 2 ^ (8 * n)) ≡ digits k w
unfolding digits
digits_below n zero w h = refl
digits_below n (suc k) w h = ap₂ (λ (x : ℕ) (xs : List ℕ). x ∷ xs) (low_byte w n k (omega arith)) (digits_below n k w (omega arith))

-- the bytes above the place k, and those below it
pub digits_split : (n k w : ℕ) → digits (n + k) w ≡ digits n (w / 2 ^ (8 * k)) ++ digits k w
unfolding digits
digits_split zero k w = ap (λ (m : ℕ). digits m w) (zero-add k)
digits_split (suc n) k w =
    let e : 8 * (n + k) ≡ 8 * k + 8 * n = omega arith in
    ap (λ (m : ℕ). digits m w) (suc-add n k)
    ∙ ap₂ (λ (x : ℕ) (xs : List ℕ). x % 256 ∷ xs) (ap (λ (m : ℕ). w / 2 ^ m) e ∙ sym (shr-shr w (8 * k) (8 * n))) (digits_split n k w)

-- the bytes of 0
pub digits_zero : (n : ℕ) → digits n 0 ≡ replicate n 0
unfolding digits
digits_zero zero = refl
digits_zero (suc n) = ap₂ (λ (x : ℕ) (xs : List ℕ). x % 256 ∷ xs) (zero-div (2 ^ (8 * n))) (digits_zero n)

-- the n low bytes moved up by k places
pub digits_up : (n k w : ℕ) → digits (n + k) (w % 2 ^ (8 * n) * 2 ^ (8 * k)) ≡ digits n w ++ replicate k 0
digits_up n k w =
    let a : ℕ = w % 2 ^ (8 * n) in
    digits_split n k (a * 2 ^ (8 * k))
    ∙ ap₂ (λ (xs ys : List ℕ). xs ++ ys)
    (ap (digits n) (shl-shr a (8 * k)) ∙ digits_below n n w (omega arith))
    (sym (digits_below k k (a * 2 ^ (8 * k)) (omega arith)) ∙ ap (digits k) (mul-mod_left a (2 ^ (8 * k))) ∙ digits_zero k)

-- the row of bytes as one number
unfoldable pub number : List ℕ → ℕ
number [] = 0
number (b ∷ bs) = b * 2 ^ (8 * length bs) + number bs

-- the number is below the power of 256
number_lt : (row : List ℕ) → Bytes row → number row < 2 ^ (8 * length row)
unfolding number
number_lt [] h = lit< tt
number_lt (b ∷ bs) h =
    let e : 8 * suc (length bs) ≡ 8 + 8 * length bs = omega arith in
    rw (e, pow-add) (digits_lt {q = b} {m = 256} (h 0) (number_lt bs (λ k. h (suc k))))

-- and its bytes
pub digits_number : (row : List ℕ) → Bytes row → digits (length row) (number row) ≡ row
unfolding digits number
digits_number [] h = refl
digits_number (b ∷ bs) h =
    let n : ℕ = length bs in
    let l : number bs < 2 ^ (8 * n) = number_lt bs (λ k. h (suc k)) in
    let w : ℕ = b * 2 ^ (8 * n) + number bs in
    let s : b < 256 = h 0 in
    ap₂ (λ (x : ℕ) (xs : List ℕ). x ∷ xs) (ap (λ (x : ℕ). x % 256) (digits_div b l) ∙ (let e : b % 256 ≡ b = omega arith in e))
    (sym (digits_below n n w (omega arith)) ∙ ap (digits n) (digits_mod b l) ∙ digits_number bs (λ k. h (suc k)))
