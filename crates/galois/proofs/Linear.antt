-- Times X and the product are linear over xor, and linear functions that agree at each bit of a byte agree at every byte.
use Rattle.std.proofs.Common.{◌≡◌, ℕ, zero, suc, ◌+◌, ◌-◌, ◌*◌, ◌/◌, ◌%◌, ◌^◌, ◌<◌, ◌≤◌, sym, refl, ap, ◌∙◌, subst, ap₂, add-zero, mod-lt, one-mul, pow-suc, zero-mul, arith, lit<}
use native.Mathlib.Decide.{dec_lt}
use lib.Arith.{lt-one}
use lib.Bits.{bit_xor, xor_block, xor_shr, xor_mod, xor_assoc, xor_comm, xor_self, xor_zero_r, xor_shifted}
use Rattle.galois.specs.Field.{times_x, mul_bits, gf_mul}

-- f of an xor is the xor of what f gives
abbrev pub Linear : (ℕ → ℕ) → Type 0
Linear f = (a b : ℕ) → f (bit_xor a b) ≡ bit_xor (f a) (f b)

linear_zero : (f : ℕ → ℕ) → Linear f → f 0 ≡ 0
linear_zero f l = l 0 0 ∙ xor_self (f 0)

-- linear functions that agree below 2 ^ k, and at 2 ^ k, agree below 2 ^ (k + 1)
one_bit_more : (f g : ℕ → ℕ) → Linear f → Linear g → (k : ℕ) → ((b : ℕ) → b < 2 ^ k → f b ≡ g b) → f (2 ^ k) ≡ g (2 ^ k) → (a : ℕ) → a < 2 ^ suc k → f a ≡ g a
one_bit_more f g lf lg k low here a h = elim (dec_lt a (2 ^ k)) [ yes l ↦ low a l | no n ↦ high (omega arith) ]
  where
    high : 2 ^ k ≤ a → f a ≡ g a
    high l =
        let d : ℕ = a - 2 ^ k in
        let w : 2 ^ suc k ≡ 2 ^ k * 2 = pow-suc 2 k in
        let hd : d < 2 ^ k = omega arith in
        let e : 2 ^ k + d ≡ a = omega arith in
        subst (λ (n : ℕ). f n ≡ g n) (simp one-mul at (xor_shifted 1 k d hd) ∙ e) (lf (2 ^ k) d ∙ ap₂ bit_xor here (low d hd) ∙ sym (lg (2 ^ k) d))

-- linear functions that agree at the k low bits agree below 2 ^ k
pub agree_at_bits : (f g : ℕ → ℕ) → Linear f → Linear g → (k : ℕ) → ((i : ℕ) → i < k → f (2 ^ i) ≡ g (2 ^ i)) → (a : ℕ) → a < 2 ^ k → f a ≡ g a
agree_at_bits f g lf lg zero s a h = rw (lt-one h) (linear_zero f lf ∙ sym (linear_zero g lg))
agree_at_bits f g lf lg (suc k) s a h = one_bit_more f g lf lg k (agree_at_bits f g lf lg k (λ i l. s i (omega arith))) (s k (omega arith)) a h

-- what holds at 0 and at 1 holds at a lowest bit
pub of_bit : (P : ℕ → Type 0) → P 0 → P 1 → (n : ℕ) → P (n % 2)
of_bit P p q n = at (n % 2) (mod-lt n (lit< tt))
  where
    at : (b : ℕ) → b < 2 → P b
    at zero h = p
    at (suc zero) h = q
    at (suc (suc b)) h = absurd (omega arith)

xor_swap : (a b c d : ℕ) → bit_xor (bit_xor a b) (bit_xor c d) ≡ bit_xor (bit_xor a c) (bit_xor b d)
xor_swap a b c d =
    let e : bit_xor b (bit_xor c d) ≡ bit_xor c (bit_xor b d) = sym (xor_assoc b c d) ∙ ap (λ (x : ℕ). bit_xor x d) (xor_comm b c) ∙ xor_assoc c b d in
    simp (xor_assoc, e)

double_xor : Linear (λ a. a * 2)
double_xor a b = simp add-zero at (sym (xor_block 1 a b 0 0 (lit< tt) (lit< tt)))

-- the xor of two bits, times c
bits_scaled : (c m n : ℕ) → bit_xor (m % 2) (n % 2) * c ≡ bit_xor (m % 2 * c) (n % 2 * c)
bits_scaled c m n =
    of_bit (λ p. bit_xor p (n % 2) * c ≡ bit_xor (p * c) (n % 2 * c)) (simp zero-mul)
    (of_bit (λ q. bit_xor 1 q * c ≡ bit_xor (1 * c) (q * c)) (simp (zero-mul, xor_zero_r)) (simp (zero-mul, xor_self)) n) m

-- a bit times an xor
bit_linear : (n : ℕ) → Linear (λ a. n % 2 * a)
bit_linear n a b = of_bit (λ p. p * bit_xor a b ≡ bit_xor (p * a) (p * b)) (simp zero-mul) (simp one-mul) n

pub times_x_linear : Linear times_x
unfolding times_x
times_x_linear a b =
    ap₂ bit_xor (double_xor a b) (ap (λ (x : ℕ). x % 2 * 285) (xor_shr a b 7) ∙ ap (λ (x : ℕ). x * 285) (xor_mod (a / 128) (b / 128) 1) ∙ bits_scaled 285 (a / 128) (b / 128))
    ∙ xor_swap (a * 2) (b * 2) (a / 128 % 2 * 285) (b / 128 % 2 * 285)

bits_xor_left : (k a b c : ℕ) → mul_bits k (bit_xor a b) c ≡ bit_xor (mul_bits k a c) (mul_bits k b c)
unfolding mul_bits
bits_xor_left zero a b c = refl
bits_xor_left (suc k) a b c =
    ap₂ bit_xor (bit_linear c a b) (ap (λ (x : ℕ). mul_bits k x (c / 2)) (times_x_linear a b) ∙ bits_xor_left k (times_x a) (times_x b) (c / 2))
    ∙ xor_swap (c % 2 * a) (c % 2 * b) (mul_bits k (times_x a) (c / 2)) (mul_bits k (times_x b) (c / 2))

bits_xor_right : (k a b c : ℕ) → mul_bits k a (bit_xor b c) ≡ bit_xor (mul_bits k a b) (mul_bits k a c)
unfolding mul_bits
bits_xor_right zero a b c = refl
bits_xor_right (suc k) a b c =
    ap₂ bit_xor (ap (λ (x : ℕ). x * a) (xor_mod b c 1) ∙ bits_scaled a b c)
    (ap (mul_bits k (times_x a)) (xor_shr b c 1) ∙ bits_xor_right k (times_x a) (b / 2) (c / 2))
    ∙ xor_swap (b % 2 * a) (c % 2 * a) (mul_bits k (times_x a) (b / 2)) (mul_bits k (times_x a) (c / 2))

pub mul_xor_left : (a b c : ℕ) → gf_mul (bit_xor a b) c ≡ bit_xor (gf_mul a c) (gf_mul b c)
unfolding gf_mul
mul_xor_left = bits_xor_left 8

pub mul_xor_right : (a b c : ℕ) → gf_mul a (bit_xor b c) ≡ bit_xor (gf_mul a b) (gf_mul a c)
unfolding gf_mul
mul_xor_right = bits_xor_right 8
