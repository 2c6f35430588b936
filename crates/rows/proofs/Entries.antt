-- Rows whose entries are bytes: sums, multiples, the generator and what division leaves.
use Rattle.std.proofs.Common.{ℕ, zero, suc, ◌+◌, ◌<◌, List, [], ◌∷◌, ◌++◌, take, drop, replicate, lit<}
use lib.Bits.{bit_xor, xor_lt}
use Rattle.std.proofs.lemmas.List.{get_or-drop}
use Rattle.galois.specs.Field.{gf_mul, gf_power}
use Rattle.galois.proofs.Laws.{mul_lt, two_power_lt}
use Rattle.rows.specs.Code.{Bytes}
use Rattle.rows.specs.Parity.{row_sum, scaled, times_factor, generator, division_step, division, parity}

-- one byte in front
pub bytes_cons : (x : ℕ) (xs : List ℕ) → x < 256 → Bytes xs → Bytes (x ∷ xs)
bytes_cons x xs h b zero = h
bytes_cons x xs h b (suc k) = b k

-- one row behind another
pub bytes_append : (xs ys : List ℕ) → Bytes xs → Bytes ys → Bytes (xs ++ ys)
bytes_append [] ys a b = b
bytes_append (x ∷ xs) ys a b = bytes_cons x (xs ++ ys) (a 0) (bytes_append xs ys (λ k. a (suc k)) b)

-- a row of zeros
pub bytes_zeros : (n : ℕ) → Bytes (replicate n 0)
bytes_zeros zero = λ k. lit< tt
bytes_zeros (suc n) = bytes_cons 0 (replicate n 0) (lit< tt) (bytes_zeros n)

-- the end of a row
pub bytes_drop : (n : ℕ) (xs : List ℕ) → Bytes xs → Bytes (drop n xs)
bytes_drop n xs b k = rw get_or-drop (b (n + k))

-- the front of a row
pub bytes_take : (n : ℕ) (xs : List ℕ) → Bytes xs → Bytes (take n xs)
bytes_take zero xs b = λ k. lit< tt
bytes_take (suc n) [] b = λ k. lit< tt
bytes_take (suc n) (x ∷ xs) b = bytes_cons x (take n xs) (b 0) (bytes_take n xs (λ k. b (suc k)))

-- the sum of two rows
pub bytes_sum : (xs ys : List ℕ) → Bytes xs → Bytes ys → Bytes (row_sum xs ys)
unfolding row_sum
bytes_sum [] ys a b = b
bytes_sum (x ∷ xs) [] a b = a
bytes_sum (x ∷ xs) (y ∷ ys) a b = bytes_cons (bit_xor x y) (row_sum xs ys) (xor_lt 8 x y (a 0) (b 0)) (bytes_sum xs ys (λ k. a (suc k)) (λ k. b (suc k)))

-- a multiple by a byte
pub bytes_scaled : (f : ℕ) (xs : List ℕ) → f < 256 → Bytes (scaled f xs)
bytes_scaled f [] h = λ k. lit< tt
bytes_scaled f (x ∷ xs) h = bytes_cons (gf_mul f x) (scaled f xs) (mul_lt f x h) (bytes_scaled f xs h)

-- a product with X + a
bytes_factor : (a c : ℕ) (g : List ℕ) → a < 256 → Bytes g → Bytes (times_factor a c g)
unfolding times_factor
bytes_factor a c [] h b = bytes_cons (gf_mul a c) [] (mul_lt a c h) (λ k. lit< tt)
bytes_factor a c (x ∷ xs) h b = bytes_cons (bit_xor x (gf_mul a c)) (times_factor a x xs) (xor_lt 8 x (gf_mul a c) (b 0) (mul_lt a c h)) (bytes_factor a x xs h (λ k. b (suc k)))

-- the generator
pub bytes_generator : (p : ℕ) → Bytes (generator p)
unfolding generator
bytes_generator zero = λ k. lit< tt
bytes_generator (suc p) = bytes_factor (gf_power 2 p) 1 (generator p) (two_power_lt p) (bytes_generator p)

-- what is left after one step
pub bytes_step : (g r : List ℕ) (b : ℕ) → b < 256 → Bytes r → Bytes (division_step g r b)
unfolding division_step
bytes_step g [] b h br = λ k. lit< tt
bytes_step g (a ∷ r) b h br =
    bytes_sum (r ++ (0 ∷ [])) (scaled (bit_xor b a) g) (bytes_append r (0 ∷ []) (λ k. br (suc k)) (bytes_zeros 1)) (bytes_scaled (bit_xor b a) g (xor_lt 8 b a h (br 0)))

-- what is left after all steps
bytes_division : (g r xs : List ℕ) → Bytes r → Bytes xs → Bytes (division g r xs)
unfolding division
bytes_division g r [] br bx = br
bytes_division g r (x ∷ xs) br bx = bytes_division g (division_step g r x) xs (bytes_step g r x (bx 0) br) (λ k. bx (suc k))

-- the parity bytes
pub bytes_parity : (p : ℕ) (xs : List ℕ) → Bytes xs → Bytes (parity p xs)
unfolding parity
bytes_parity p xs b = bytes_division (generator p) (replicate p 0) xs (bytes_zeros p) b
