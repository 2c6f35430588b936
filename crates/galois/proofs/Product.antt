-- The laws of the product on bytes, as numbers below 256.
use Rattle.std.proofs.Common.{◌≡◌, ℕ, zero, suc, ◌*◌, ◌/◌, ◌%◌, ◌^◌, ◌<◌, Bool, eqb, ltb, sym, refl, ap, ◌∙◌, ap₂, mod-lt, mod-eq_of_lt, one-mul, zero-mul, add-one, arith, lit<, eqb→eq, ltb→lt}
use native.Mathlib.Nat.{mod-mod}
use lib.Pow.{field, mod-mod-pow}
use lib.Bits.{bit_xor, xor_mod, xor_lt, xor_self, xor_zero_r}
use Rattle.galois.specs.Field.{times_x, mul_bits, gf_mul}
use Rattle.galois.proofs.Linear.{agree_at_bits, of_bit, mul_xor_left, mul_xor_right}
use Rattle.tables.proofs.All.{all, below}

times_x_lt : (a : ℕ) → a < 256 → times_x a < 256
unfolding times_x
times_x_lt a h = ltb→lt (times_x a) 256 (below (λ n. ltb (times_x n) 256) 256 tt a h)

bits_lt : (k a c : ℕ) → a < 256 → mul_bits k a c < 256
unfolding mul_bits
bits_lt zero a c h = lit< tt
bits_lt (suc k) a c h =
    xor_lt 8 (c % 2 * a) (mul_bits k (times_x a) (c / 2)) (of_bit (λ p. p * a < 256) (rw zero-mul (lit< tt)) (rw one-mul h) c)
    (bits_lt k (times_x a) (c / 2) (times_x_lt a h))

-- a byte times anything is a byte
pub mul_lt : (a b : ℕ) → a < 256 → gf_mul a b < 256
unfolding gf_mul
mul_lt = bits_lt 8

pub mul_zero_right : (a : ℕ) → gf_mul a 0 ≡ 0
mul_zero_right a = mul_xor_right a 0 0 ∙ xor_self (gf_mul a 0)

pub mul_zero_left : (a : ℕ) → gf_mul 0 a ≡ 0
mul_zero_left a = mul_xor_left 0 0 a ∙ xor_self (gf_mul 0 a)

pub mul_one : (a : ℕ) → a < 256 → gf_mul a 1 ≡ a
unfolding gf_mul mul_bits
mul_one a h = simp (zero-mul, one-mul, xor_zero_r)

-- times the byte 2 is times X
pub mul_two : (a : ℕ) → gf_mul a 2 ≡ times_x a
unfolding gf_mul mul_bits
mul_two a = simp (zero-mul, one-mul, xor_zero_r)

-- the product commutes at two single bits
comm_test : ℕ → ℕ → Bool
unfolding gf_mul mul_bits times_x
comm_test i j = eqb (gf_mul (2 ^ i) (2 ^ j)) (gf_mul (2 ^ j) (2 ^ i))

comm_bits : (i j : ℕ) → i < 8 → j < 8 → gf_mul (2 ^ i) (2 ^ j) ≡ gf_mul (2 ^ j) (2 ^ i)
unfolding comm_test
comm_bits i j hi hj =
    eqb→eq (gf_mul (2 ^ i) (2 ^ j)) (gf_mul (2 ^ j) (2 ^ i)) (below (comm_test i) 8 (below (λ i. all (comm_test i) 0 8) 8 tt i hi) j hj)

pub mul_comm : (a b : ℕ) → a < 256 → b < 256 → gf_mul a b ≡ gf_mul b a
mul_comm a b ha hb =
    agree_at_bits (λ x. gf_mul x b) (gf_mul b) (λ x y. mul_xor_left x y b) (mul_xor_right b) 8
    (λ i hi. agree_at_bits (gf_mul (2 ^ i)) (λ y. gf_mul y (2 ^ i)) (mul_xor_right (2 ^ i)) (λ x y. mul_xor_left x y (2 ^ i)) 8 (λ j hj. comm_bits i j hi hj) b hb) a ha

-- the product associates at three single bits
assoc_test : ℕ → ℕ → ℕ → Bool
unfolding gf_mul mul_bits times_x
assoc_test i j k = eqb (gf_mul (gf_mul (2 ^ i) (2 ^ j)) (2 ^ k)) (gf_mul (2 ^ i) (gf_mul (2 ^ j) (2 ^ k)))

assoc_bits : (i j k : ℕ) → i < 8 → j < 8 → k < 8 → gf_mul (gf_mul (2 ^ i) (2 ^ j)) (2 ^ k) ≡ gf_mul (2 ^ i) (gf_mul (2 ^ j) (2 ^ k))
unfolding assoc_test
assoc_bits i j k hi hj hk =
    eqb→eq (gf_mul (gf_mul (2 ^ i) (2 ^ j)) (2 ^ k)) (gf_mul (2 ^ i) (gf_mul (2 ^ j) (2 ^ k)))
    (below (assoc_test i j) 8 (below (λ j. all (assoc_test i j) 0 8) 8 (below (λ i. all (λ j. all (assoc_test i j) 0 8) 0 8) 8 tt i hi) j hj) k hk)

pub mul_assoc : (a b c : ℕ) → a < 256 → b < 256 → c < 256 → gf_mul (gf_mul a b) c ≡ gf_mul a (gf_mul b c)
mul_assoc a b c ha hb hc =
    agree_at_bits (λ x. gf_mul (gf_mul x b) c) (λ x. gf_mul x (gf_mul b c)) (λ x y. simp mul_xor_left) (λ x y. simp mul_xor_left) 8
    (λ i hi. agree_at_bits (λ y. gf_mul (gf_mul (2 ^ i) y) c) (λ y. gf_mul (2 ^ i) (gf_mul y c)) (λ x y. simp (mul_xor_left, mul_xor_right)) (λ x y. simp (mul_xor_left, mul_xor_right)) 8
    (λ j hj. agree_at_bits (λ z. gf_mul (gf_mul (2 ^ i) (2 ^ j)) z) (λ z. gf_mul (2 ^ i) (gf_mul (2 ^ j) z)) (λ x y. simp mul_xor_right) (λ x y. simp mul_xor_right) 8
    (λ k hk. assoc_bits i j k hi hj hk) c hc) b hb) a ha

times_x_mod : (a : ℕ) → times_x a % 256 ≡ times_x (a % 256) % 256
unfolding times_x
times_x_mod a =
    let u : a * 2 % 256 ≡ a % 256 * 2 % 256 = omega arith in
    let v : a / 128 % 2 ≡ a % 256 / 128 % 2 = sym (ap (λ (x : ℕ). x % 2) (field a 1 7) ∙ mod-mod (a / 128) 2) in
    xor_mod (a * 2) (a / 128 % 2 * 285) 8 ∙ ap₂ (λ (x y : ℕ). bit_xor x (y * 285 % 256)) u v ∙ sym (xor_mod (a % 256 * 2) (a % 256 / 128 % 2 * 285) 8)

bits_mod : (k a c : ℕ) → mul_bits k a c % 256 ≡ mul_bits k (a % 256) c % 256
unfolding mul_bits
bits_mod zero a c = refl
bits_mod (suc k) a c =
    xor_mod (c % 2 * a) (mul_bits k (times_x a) (c / 2)) 8
    ∙ ap₂ bit_xor (of_bit (λ p. p * a % 256 ≡ p * (a % 256) % 256) (simp zero-mul) (simp (one-mul, mod-mod)) c)
    (bits_mod k (times_x a) (c / 2) ∙ ap (λ (x : ℕ). mul_bits k x (c / 2) % 256) (times_x_mod a) ∙ sym (bits_mod k (times_x (a % 256)) (c / 2)))
    ∙ sym (xor_mod (c % 2 * (a % 256)) (mul_bits k (times_x (a % 256)) (c / 2)) 8)

bits_low : (k a c : ℕ) → mul_bits k a (c % 2 ^ k) ≡ mul_bits k a c
unfolding mul_bits
bits_low zero a c = refl
bits_low (suc k) a c =
    ap (λ (n : ℕ). bit_xor (c % 2 ^ n % 2 * a) (mul_bits k (times_x a) (c % 2 ^ n / 2))) (sym (add-one k))
    ∙ ap₂ (λ (x y : ℕ). bit_xor (x * a) (mul_bits k (times_x a) y)) (mod-mod-pow c k 1) (field c k 1)
    ∙ ap (bit_xor (c % 2 * a)) (bits_low k (times_x a) (c / 2))

-- the low byte of a product is the product of the low bytes
pub mul_mod : (m n : ℕ) → gf_mul m n % 256 ≡ gf_mul (m % 256) (n % 256)
unfolding gf_mul
mul_mod m n = bits_mod 8 m n ∙ ap (λ (x : ℕ). x % 256) (sym (bits_low 8 (m % 256) n)) ∙ mod-eq_of_lt (mul_lt (m % 256) (n % 256) (mod-lt m (lit< tt)))
