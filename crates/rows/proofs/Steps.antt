-- Sums and multiples of rows, and two steps of the division at once.
use Rattle.std.proofs.Common.{◌≡◌, ℕ, zero, suc, ◌+◌, ◌<◌, List, [], ◌∷◌, ◌++◌, length, get_or, replicate, sym, refl, ap, ◌∙◌, ap₂, append_assoc, arith, length-append}
use lib.Bits.{bit_xor, xor_assoc, xor_comm, xor_lt}
use lib.ListN.{length-map}
use Rattle.galois.specs.Field.{gf_mul}
use Rattle.galois.proofs.Laws.{mul_xor_left, mul_xor_right, mul_assoc, mul_zero_right}
use Rattle.rows.specs.Code.{Bytes}
use Rattle.rows.specs.Parity.{row_sum, scaled, generator, division_step, division, parity}

-- sums in either order
sum_comm : (xs ys : List ℕ) → row_sum xs ys ≡ row_sum ys xs
unfolding row_sum
sum_comm [] [] = refl
sum_comm [] (y ∷ ys) = refl
sum_comm (x ∷ xs) [] = refl
sum_comm (x ∷ xs) (y ∷ ys) = ap₂ (λ (z : ℕ) (zs : List ℕ). z ∷ zs) (xor_comm x y) (sum_comm xs ys)

-- sums of three rows
sum_assoc : (xs ys zs : List ℕ) → row_sum (row_sum xs ys) zs ≡ row_sum xs (row_sum ys zs)
unfolding row_sum
sum_assoc [] ys zs = refl
sum_assoc (x ∷ xs) [] zs = refl
sum_assoc (x ∷ xs) (y ∷ ys) [] = refl
sum_assoc (x ∷ xs) (y ∷ ys) (z ∷ zs) = ap₂ (λ (n : ℕ) (ns : List ℕ). n ∷ ns) (xor_assoc x y z) (sum_assoc xs ys zs)

-- an entry of a sum
pub get_or_sum : (xs ys : List ℕ) (k : ℕ) → get_or (row_sum xs ys) k 0 ≡ bit_xor (get_or xs k 0) (get_or ys k 0)
unfolding row_sum
get_or_sum [] ys k = refl
get_or_sum (x ∷ xs) [] k = xor_comm 0 (get_or (x ∷ xs) k 0)
get_or_sum (x ∷ xs) (y ∷ ys) zero = refl
get_or_sum (x ∷ xs) (y ∷ ys) (suc k) = get_or_sum xs ys k

-- sums and what stands behind them
sum_append : (xs ys : List ℕ) → length xs ≡ length ys → row_sum xs ys ++ (0 ∷ []) ≡ row_sum (xs ++ (0 ∷ [])) (ys ++ (0 ∷ []))
unfolding row_sum
sum_append [] [] e = refl
sum_append [] (y ∷ ys) e = absurd (omega arith)
sum_append (x ∷ xs) [] e = absurd (omega arith)
sum_append (x ∷ xs) (y ∷ ys) e = ap (λ (zs : List ℕ). bit_xor x y ∷ zs) (sum_append xs ys (omega arith))

-- a multiple of a sum
scaled_sum : (f : ℕ) (xs ys : List ℕ) → scaled f (row_sum xs ys) ≡ row_sum (scaled f xs) (scaled f ys)
unfolding row_sum
scaled_sum f [] ys = refl
scaled_sum f (x ∷ xs) [] = refl
scaled_sum f (x ∷ xs) (y ∷ ys) = ap₂ (λ (n : ℕ) (ns : List ℕ). n ∷ ns) (mul_xor_right f x y) (scaled_sum f xs ys)

-- the multiple by a sum
sum_scaled : (f g : ℕ) (xs : List ℕ) → scaled (bit_xor f g) xs ≡ row_sum (scaled f xs) (scaled g xs)
unfolding row_sum
sum_scaled f g [] = refl
sum_scaled f g (x ∷ xs) = ap₂ (λ (n : ℕ) (ns : List ℕ). n ∷ ns) (mul_xor_left f g x) (sum_scaled f g xs)

-- the multiple by a product
scaled_scaled : (f g : ℕ) (xs : List ℕ) → f < 256 → g < 256 → Bytes xs → scaled (gf_mul f g) xs ≡ scaled f (scaled g xs)
scaled_scaled f g [] hf hg b = refl
scaled_scaled f g (x ∷ xs) hf hg b = ap₂ (λ (n : ℕ) (ns : List ℕ). n ∷ ns) (mul_assoc f g x hf hg (b 0)) (scaled_scaled f g xs hf hg (λ k. b (suc k)))

-- a multiple of a row with a zero behind it
scaled_append : (f : ℕ) (xs : List ℕ) → scaled f (xs ++ (0 ∷ [])) ≡ scaled f xs ++ (0 ∷ [])
scaled_append f [] = ap (λ (n : ℕ). n ∷ []) (mul_zero_right f)
scaled_append f (x ∷ xs) = ap (λ (ns : List ℕ). gf_mul f x ∷ ns) (scaled_append f xs)

-- a step from a row that is not empty
pub step_cons : (g : List ℕ) (a : ℕ) (r : List ℕ) (b : ℕ) → division_step g (a ∷ r) b ≡ row_sum (r ++ (0 ∷ [])) (scaled (bit_xor b a) g)
unfolding division_step
step_cons g a r b = refl

-- one byte more is one step more
division_more : (g r xs : List ℕ) (b : ℕ) → division g r (xs ++ (b ∷ [])) ≡ division_step g (division g r xs) b
unfolding division
division_more g r [] b = refl
division_more g r (x ∷ xs) b = division_more g (division_step g r x) xs b

-- the parity bytes of one byte more
pub parity_more : (p : ℕ) (xs : List ℕ) (b : ℕ) → parity p (xs ++ (b ∷ [])) ≡ division_step (generator p) (parity p xs) b
unfolding parity
parity_more p xs b = division_more (generator p) (replicate p 0) xs b

-- two steps: what was left moves up by two places, and a multiple of what is left of X * g and one of g are added
pub two_steps : (g : List ℕ) (h k : ℕ) (r : List ℕ) (a b : ℕ) → length g ≡ suc (suc (length r)) → Bytes g → h < 256 → a < 256
    → division_step g (division_step g (h ∷ (k ∷ r)) a) b ≡ row_sum (row_sum (r ++ (0 ∷ (0 ∷ []))) (scaled (bit_xor a h) (division_step g g 0))) (scaled (bit_xor b k) g)
unfolding division_step row_sum
two_steps [] h k r a b l bg hh ha = absurd (omega arith)
two_steps (c ∷ g) h k r a b l bg hh ha =
    let f : ℕ = bit_xor a h in
    let G : List ℕ = c ∷ g in
    let up : List ℕ = r ++ (0 ∷ (0 ∷ [])) in
    let A : List ℕ = scaled f g ++ (0 ∷ []) in
    let B : List ℕ = scaled (gf_mul f c) G in
    let C : List ℕ = scaled (bit_xor b k) G in
    let e : length (r ++ (0 ∷ [])) ≡ length (scaled f g) = length-append r (0 ∷ []) ∙ (let n : length r + 1 ≡ length g = omega arith in n) ∙ sym (length-map g (gf_mul f)) in
    let first : row_sum (r ++ (0 ∷ [])) (scaled f g) ++ (0 ∷ []) ≡ row_sum up A = sum_append (r ++ (0 ∷ [])) (scaled f g) e ∙ ap (λ (l : List ℕ). row_sum l A) (append_assoc r (0 ∷ []) (0 ∷ [])) in
    let second : scaled (bit_xor b (bit_xor k (gf_mul f c))) G ≡ row_sum C B = ap (λ (n : ℕ). scaled n G) (sym (xor_assoc b k (gf_mul f c))) ∙ sum_scaled (bit_xor b k) (gf_mul f c) G in
    let third : scaled f (row_sum (g ++ (0 ∷ [])) (scaled (bit_xor 0 c) G)) ≡ row_sum A B =
    scaled_sum f (g ++ (0 ∷ [])) (scaled (bit_xor 0 c) G) ∙ ap₂ row_sum (scaled_append f g) (sym (scaled_scaled f c G (xor_lt 8 a h ha hh) (bg 0) bg)) in
    ap₂ row_sum first second ∙ swap up A B C ∙ sym (ap (λ (l : List ℕ). row_sum (row_sum up l) C) third)
  where
    swap : (u a b c : List ℕ) → row_sum (row_sum u a) (row_sum c b) ≡ row_sum (row_sum u (row_sum a b)) c
    swap u a b c = ap (row_sum (row_sum u a)) (sum_comm c b) ∙ sym (sum_assoc (row_sum u a) b c) ∙ ap (λ (l : List ℕ). row_sum l c) (sum_assoc u a b)
