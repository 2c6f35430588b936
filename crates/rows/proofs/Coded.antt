-- The coded row is a code row, and a row is a code row where its remainder is zero and only there.
use Rattle.std.proofs.Common.{◌≡◌, ℕ, zero, suc, ◌-◌, ◌<◌, ◌≤◌, List, ◌++◌, length, take, drop, replicate, sym, refl, ap, ◌∙◌, ap₂, arith, lit<, length-drop}
use lib.Bits.{bit_xor}
use lib.ListN.{length-replicate}
use Rattle.std.proofs.lemmas.List.{take-append-drop}
use Rattle.galois.specs.Field.{gf_power}
use Rattle.galois.proofs.Laws.{mul_zero_left}
use Rattle.rows.specs.Code.{Bytes, CodeRow, row_value}
use Rattle.rows.specs.Parity.{parity, coded, remainder}
use Rattle.rows.proofs.Bytes.{Byte, add, mul, nil, to_byte_eq}
use Rattle.rows.proofs.Ring.{add_self}
use Rattle.rows.proofs.Values.{bytes, power, value, place, value_at, value_lt, value_append, value_sum, length_sum}
use Rattle.rows.proofs.Entries.{bytes_append, bytes_take, bytes_drop, bytes_sum, bytes_zeros, bytes_parity}
use Rattle.rows.proofs.Division.{Left, length_parity, left_parity}
use Rattle.rows.proofs.Unique.{only_completion}

-- the value at a power of 2, from its value as a byte
pub value_from : (a b : List ℕ) (j : ℕ) → Bytes a → Bytes b → value (bytes a) (place j) ≡ value (bytes b) (place j) → row_value a (gf_power 2 j) ≡ row_value b (gf_power 2 j)
value_from a b j ha hb e =
    to_byte_eq (row_value a (gf_power 2 j)) (row_value b (gf_power 2 j)) (value_lt a (gf_power 2 j) ha) (value_lt b (gf_power 2 j) hb) (value_at a j ∙ e ∙ sym (value_at b j))

-- data with what its division leaves is a code row
pub completed : (p : ℕ) (xs r : List ℕ) → Bytes (xs ++ r) → length r ≡ p → Left p xs r → CodeRow p (xs ++ r)
completed p xs r b l V j h =
    let X : Byte = place j in
    let D : Byte = value (bytes xs) X in
    let v : value (bytes (xs ++ r)) X ≡ nil = value_append xs r X ∙ ap₂ (λ (n : ℕ) (z : Byte). add (mul D (power X n)) z) l (V j h) ∙ add_self (mul D (power X p)) in
    to_byte_eq (row_value (xs ++ r) (gf_power 2 j)) 0 (value_lt (xs ++ r) (gf_power 2 j) b) (lit< tt) (value_at (xs ++ r) j ∙ v)

-- the coded row has bytes
pub bytes_coded : (p : ℕ) (xs : List ℕ) → Bytes xs → Bytes (coded p xs)
bytes_coded p xs b = bytes_append xs (parity p xs) b (bytes_parity p xs b)

-- the coded row is a code row, for every number of parity bytes
pub coded_is_code : (p : ℕ) (xs : List ℕ) → Bytes xs → CodeRow p (coded p xs)
coded_is_code p xs b = completed p xs (parity p xs) (bytes_coded p xs b) (length_parity p xs) (left_parity p xs)

-- ---- the remainder of a row
-- the last p bytes are p
length_last : (p : ℕ) (row : List ℕ) → p ≤ length row → length (drop (length row - p) row) ≡ p
length_last p row h = length-drop (length row - p) row ∙ (let e : length row - (length row - p) ≡ p = omega arith in e)

-- the remainder has p bytes
pub length_remainder : (p : ℕ) (row : List ℕ) → p ≤ length row → length (remainder p row) ≡ p
length_remainder p row h =
    let m : ℕ = length row - p in
    length_sum (parity p (take m row)) (drop m row) (length_parity p (take m row) ∙ sym (length_last p row h)) ∙ length_parity p (take m row)

-- the remainder has bytes
pub bytes_remainder : (p : ℕ) (row : List ℕ) → Bytes row → Bytes (remainder p row)
bytes_remainder p row b =
    let m : ℕ = length row - p in
    bytes_sum (parity p (take m row)) (drop m row) (bytes_parity p (take m row) (bytes_take m row b)) (bytes_drop m row b)

-- the remainder has the row's values at the first p powers of 2
pub left_over : (p : ℕ) (row : List ℕ) → p ≤ length row → Bytes row → (j : ℕ) → j < p → row_value (remainder p row) (gf_power 2 j) ≡ row_value row (gf_power 2 j)
left_over p row h b j hj =
    let m : ℕ = length row - p in
    let X : Byte = place j in
    let tail : List ℕ = drop m row in
    let lt : length tail ≡ p = length_last p row h in
    value_from (remainder p row) row j (bytes_remainder p row b) b
    (value_sum (parity p (take m row)) tail X (length_parity p (take m row) ∙ sym lt)
    ∙ ap (λ (y : Byte). add y (value (bytes tail) X)) (left_parity p (take m row) j hj)
    ∙ ap (λ (n : ℕ). add (mul (value (bytes (take m row)) X) (power X n)) (value (bytes tail) X)) (sym lt)
    ∙ sym (value_append (take m row) tail X) ∙ ap (λ (l : List ℕ). value (bytes l) X) (take-append-drop m row))

-- a row of zeros has the value 0
zeros_value : (n x : ℕ) → row_value (replicate n 0) x ≡ 0
unfolding row_value
zeros_value zero x = refl
zeros_value (suc n) x = ap₂ bit_xor (mul_zero_left (gf_power x (length (replicate n 0)))) (zeros_value n x)

-- a row whose remainder is zero is a code row
pub blank_code : (p : ℕ) (row : List ℕ) → p ≤ length row → Bytes row → remainder p row ≡ replicate p 0 → CodeRow p row
blank_code p row h b e j hj = sym (left_over p row h b j hj) ∙ ap (λ (l : List ℕ). row_value l (gf_power 2 j)) e ∙ zeros_value p (gf_power 2 j)

-- the remainder of a code row is zero: p bytes that vanish at p places
pub code_blank : (p : ℕ) (row : List ℕ) → p ≤ length row → p ≤ 255 → Bytes row → CodeRow p row → remainder p row ≡ replicate p 0
code_blank p row h s b C =
    let l : length (remainder p row) ≡ p = length_remainder p row h in
    only_completion p (remainder p row) (replicate p 0) (bytes_remainder p row b) (bytes_zeros p) (l ∙ sym (length-replicate p 0)) (omega arith) (λ j hj. left_over p row h b j hj ∙ C j hj)
    (λ j hj. zeros_value p (gf_power 2 j))
    (let z : length (remainder p row) - p ≡ 0 = omega arith in ap (λ (n : ℕ). take n (remainder p row)) z ∙ sym (ap (λ (n : ℕ). take n (replicate p 0)) z))
