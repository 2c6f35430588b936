-- The values of rows as bytes: of a row behind another, of a sum and of a multiple.
use Rattle.std.proofs.Common.{◌≡◌, ℕ, zero, suc, ◌+◌, ◌<◌, List, [], ◌∷◌, ◌++◌, map, length, sym, refl, ap, ◌∙◌, ap₂, add-zero, add-suc, arith, lit<, length-append}
use lib.Bits.{bit_xor, xor_lt}
use lib.ListN.{length-map}
use Rattle.galois.specs.Field.{gf_mul, gf_power}
use Rattle.galois.proofs.Laws.{mul_lt}
use Rattle.moments.proofs.Moments as M
use Rattle.rows.specs.Code.{Bytes, row_value}
use Rattle.rows.specs.Parity.{row_sum, scaled}
use Rattle.rows.proofs.Bytes.{Byte, to_byte, add, mul, nil, one, laws, to_byte_xor, to_byte_mul}
use Rattle.rows.proofs.Ring.{ring, nil_mul, mul_nil, nil_add, mul_one, add_self}

-- the row's entries as bytes
abbrev pub bytes : List ℕ → List Byte
bytes l = map to_byte l

-- a power of a byte
abbrev pub power : Byte → ℕ → Byte
power = M.pow Byte add mul nil one laws

-- the value of a row of bytes
abbrev pub value : List Byte → Byte → Byte
value = M.rowEval Byte add mul nil one laws (to_byte 2)

-- the power j of 2
abbrev pub place : ℕ → Byte
place j = power (to_byte 2) j

-- as many bytes as entries
pub length_bytes : (l : List ℕ) → length (bytes l) ≡ length l
length_bytes l = length-map l to_byte

-- the power as a byte
pub to_byte_power : (x k : ℕ) → to_byte (gf_power x k) ≡ power (to_byte x) k
unfolding gf_power M.pow
to_byte_power x zero = refl
to_byte_power x (suc k) = to_byte_mul (gf_power x k) x ∙ ap (λ (y : Byte). mul y (to_byte x)) (to_byte_power x k)

-- the value of a row as a byte
pub to_byte_value : (row : List ℕ) (x : ℕ) → to_byte (row_value row x) ≡ value (bytes row) (to_byte x)
unfolding row_value M.rowEval
to_byte_value [] x = refl
to_byte_value (b ∷ bs) x =
    to_byte_xor (gf_mul b (gf_power x (length bs))) (row_value bs x)
    ∙ ap₂ add (to_byte_mul b (gf_power x (length bs)) ∙ ap (mul (to_byte b)) (to_byte_power x (length bs) ∙ ap (power (to_byte x)) (sym (length_bytes bs)))) (to_byte_value bs x)

-- the value at a power of 2
pub value_at : (row : List ℕ) (j : ℕ) → to_byte (row_value row (gf_power 2 j)) ≡ value (bytes row) (place j)
value_at row j = to_byte_value row (gf_power 2 j) ∙ ap (value (bytes row)) (to_byte_power 2 j)

-- the value of a row of bytes is a byte
pub value_lt : (row : List ℕ) (x : ℕ) → Bytes row → row_value row x < 256
unfolding row_value
value_lt [] x b = lit< tt
value_lt (a ∷ l) x b = xor_lt 8 (gf_mul a (gf_power x (length l))) (row_value l x) (mul_lt a (gf_power x (length l)) (b 0)) (value_lt l x (λ k. b (suc k)))

-- one power more
pub power_suc : (x : Byte) (k : ℕ) → power x (suc k) ≡ mul (power x k) x
unfolding M.pow
power_suc x k = refl

-- the power 0
pub power_zero : (x : Byte) → power x 0 ≡ one
unfolding M.pow
power_zero x = refl

-- the sum of two exponents
pub power_add : (x : Byte) (i j : ℕ) → power x (i + j) ≡ mul (power x i) (power x j)
unfolding M.pow
power_add x i zero = ap (power x) (add-zero i) ∙ sym (mul_one (power x i))
power_add x i (suc j) = ap (power x) (add-suc i j) ∙ ap (λ (y : Byte). mul y x) (power_add x i j) ∙ laws.mul_assoc (power x i) (power x j) x

-- the row without bytes
pub value_nil : (x : Byte) → value (bytes []) x ≡ nil
unfolding M.rowEval
value_nil x = refl

-- one byte in front
pub value_cons : (b : ℕ) (bs : List ℕ) (x : Byte) → value (bytes (b ∷ bs)) x ≡ add (mul (to_byte b) (power x (length bs))) (value (bytes bs) x)
unfolding M.rowEval
value_cons b bs x = ap (λ (n : ℕ). add (mul (to_byte b) (power x n)) (value (bytes bs) x)) (length_bytes bs)

-- the row of one byte
pub value_one : (b : ℕ) (x : Byte) → value (bytes (b ∷ [])) x ≡ to_byte b
value_one b x = value_cons b [] x ∙ ap₂ (λ (y z : Byte). add (mul (to_byte b) y) z) (power_zero x) (value_nil x) ∙ simp ring

-- one row behind another
pub value_append : (xs ys : List ℕ) (x : Byte) → value (bytes (xs ++ ys)) x ≡ add (mul (value (bytes xs) x) (power x (length ys))) (value (bytes ys) x)
value_append [] ys x = sym (ap (λ (z : Byte). add (mul z (power x (length ys))) (value (bytes ys) x)) (value_nil x) ∙ simp (nil_mul, nil_add))
value_append (b ∷ xs) ys x =
    value_cons b (xs ++ ys) x
    ∙ ap₂ (λ (n : ℕ) (z : Byte). add (mul (to_byte b) (power x n)) z) (length-append xs ys) (value_append xs ys x)
    ∙ ap (λ (p : Byte). add (mul (to_byte b) p) (add (mul (value (bytes xs) x) (power x (length ys))) (value (bytes ys) x))) (power_add x (length xs) (length ys))
    ∙ group (to_byte b) (power x (length xs)) (power x (length ys)) (value (bytes xs) x) (value (bytes ys) x)
    ∙ ap (λ (z : Byte). add (mul z (power x (length ys))) (value (bytes ys) x)) (sym (value_cons b xs x))
  where
    group : (b p q r y : Byte) → add (mul b (mul p q)) (add (mul r q) y) ≡ add (mul (add (mul b p) r) q) y
    group b p q r y = simp ring

-- the sum of two rows is as long as they are
pub length_sum : (xs ys : List ℕ) → length xs ≡ length ys → length (row_sum xs ys) ≡ length xs
unfolding row_sum
length_sum [] [] e = refl
length_sum [] (y ∷ ys) e = absurd (omega arith)
length_sum (a ∷ xs) [] e = refl
length_sum (a ∷ xs) (b ∷ ys) e = ap suc (length_sum xs ys (omega arith))

-- the sum of two rows of the same length
pub value_sum : (xs ys : List ℕ) (x : Byte) → length xs ≡ length ys → value (bytes (row_sum xs ys)) x ≡ add (value (bytes xs) x) (value (bytes ys) x)
unfolding row_sum
value_sum [] [] x e = value_nil x ∙ sym (ap₂ add (value_nil x) (value_nil x) ∙ add_self nil)
value_sum [] (y ∷ ys) x e = absurd (omega arith)
value_sum (a ∷ xs) [] x e = absurd (omega arith)
value_sum (a ∷ xs) (b ∷ ys) x e =
    let h : length xs ≡ length ys = omega arith in
    value_cons (bit_xor a b) (row_sum xs ys) x
    ∙ ap₂ (λ (y : Byte) (n : ℕ). add (mul y (power x n)) (value (bytes (row_sum xs ys)) x)) (to_byte_xor a b) (length_sum xs ys h)
    ∙ ap (add (mul (add (to_byte a) (to_byte b)) (power x (length xs)))) (value_sum xs ys x h)
    ∙ group (to_byte a) (to_byte b) (power x (length xs)) (value (bytes xs) x) (value (bytes ys) x)
    ∙ ap₂ add (sym (value_cons a xs x)) (ap (λ (n : ℕ). add (mul (to_byte b) (power x n)) (value (bytes ys) x)) h ∙ sym (value_cons b ys x))
  where
    group : (a b p r s : Byte) → add (mul (add a b) p) (add r s) ≡ add (add (mul a p) r) (add (mul b p) s)
    group a b p r s = simp ring

-- a multiple of a row
pub value_scaled : (f : ℕ) (row : List ℕ) (x : Byte) → value (bytes (scaled f row)) x ≡ mul (to_byte f) (value (bytes row) x)
value_scaled f [] x = value_nil x ∙ sym (ap (mul (to_byte f)) (value_nil x) ∙ mul_nil (to_byte f))
value_scaled f (b ∷ bs) x =
    value_cons (gf_mul f b) (scaled f bs) x
    ∙ ap₂ (λ (y : Byte) (n : ℕ). add (mul y (power x n)) (value (bytes (scaled f bs)) x)) (to_byte_mul f b) (length-map bs (gf_mul f))
    ∙ ap (add (mul (mul (to_byte f) (to_byte b)) (power x (length bs)))) (value_scaled f bs x)
    ∙ group (to_byte f) (to_byte b) (power x (length bs)) (value (bytes bs) x)
    ∙ ap (mul (to_byte f)) (sym (value_cons b bs x))
  where
    group : (f g p r : Byte) → add (mul (mul f g) p) (mul f r) ≡ mul f (add (mul g p) r)
    group f g p r = simp ring
