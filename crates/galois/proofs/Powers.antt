-- The powers of 2: the product adds their exponents, the first 255 are distinct, and every nonzero byte is one of them.
use Rattle.std.proofs.Common.{◌≡◌, ℕ, zero, suc, ◌+◌, ◌-◌, ◌<◌, true, false, T, eqb, ltb, ◌⊎◌, List, get_or, sym, refl, ap, ◌∙◌, inl, inr, le_of_suc-le-suc, not-suc-le-zero, add-zero, add-suc, zero-add, arith, lit<, ltb→lt}
use native.Mathlib.Decide.{ℕ_discrete}
use Rattle.std.specs.List.{range_with_len}
use Rattle.std.proofs.lemmas.List.FromFn.{get_or-range_with_len}
use Rattle.galois.specs.Field.{times_x, mul_bits, gf_mul, gf_power}
use Rattle.galois.proofs.Product.{mul_lt, mul_zero_left, mul_one, mul_two, mul_assoc}
use Rattle.tables.proofs.All.{below, agree}
use Rattle.tables.proofs.Entries.{iterates, iterate, images, image}

pub power_lt : (x k : ℕ) → x < 256 → gf_power x k < 256
unfolding gf_power
power_lt x zero h = lit< tt
power_lt x (suc k) h = mul_lt (gf_power x k) x (power_lt x k h)

pub two_power_lt : (k : ℕ) → gf_power 2 k < 256
two_power_lt k = power_lt 2 k (lit< tt)

-- each power of 2 is times X of the one before
pub two_power_suc : (k : ℕ) → gf_power 2 (suc k) ≡ times_x (gf_power 2 k)
unfolding gf_power
two_power_suc k = mul_two (gf_power 2 k)

pub two_power_add : (j k : ℕ) → gf_mul (gf_power 2 j) (gf_power 2 k) ≡ gf_power 2 (j + k)
unfolding gf_power
two_power_add j zero = mul_one (gf_power 2 j) (two_power_lt j) ∙ ap (gf_power 2) (sym (add-zero j))
two_power_add j (suc k) =
    sym (mul_assoc (gf_power 2 j) (gf_power 2 k) 2 (two_power_lt j) (two_power_lt k) (lit< tt))
    ∙ ap (λ (x : ℕ). gf_mul x 2) (two_power_add j k) ∙ ap (gf_power 2) (sym (add-suc j k))

-- the powers of 2 come round after 255
pub two_power_255 : gf_power 2 255 ≡ 1
unfolding gf_power gf_mul mul_bits times_x
two_power_255 = refl

-- x is the i-th power: the exponent of the first power, from there on, that is a; with n powers to look through
exponent : ℕ → ℕ → ℕ → ℕ → ℕ
unfolding times_x
exponent a i x zero = i
exponent a i x (suc n) = elim (eqb x a) [ true ↦ i | false ↦ exponent a (suc i) (times_x x) n ]

-- the exponent of a nonzero byte a as a power of 2
unfoldable pub log : ℕ → ℕ
unfolding exponent
log a = exponent a 0 1 255

-- counting through the powers finds each nonzero byte
log_found : (n : ℕ) → n < 255 → T (ltb (log (suc n)) 255)
unfolding log
log_found = below (λ n. ltb (log (suc n)) 255) 255 tt

log_right : (n : ℕ) → n < 255 → get_or (iterates times_x 1 255) (log (suc n)) 0 ≡ suc n
unfolding log times_x
log_right = agree (λ n. get_or (iterates times_x 1 255) (log (suc n)) 0) suc 255 tt

-- and finds each power at its own exponent
log_listed : images log times_x 1 255 ≡ range_with_len 0 255
unfolding log times_x
log_listed = refl

pub log_lt : (a : ℕ) → 0 < a → a < 256 → log a < 255
log_lt zero p h = absurd (not-suc-le-zero p)
log_lt (suc a) p h = ltb→lt (log (suc a)) 255 (log_found a (le_of_suc-le-suc h))

-- every nonzero byte is a power of 2
pub two_power_log : (a : ℕ) → 0 < a → a < 256 → gf_power 2 (log a) ≡ a
unfolding gf_power
two_power_log zero p h = absurd (not-suc-le-zero p)
two_power_log (suc a) p h =
    ap (gf_power 2) (sym (zero-add (log (suc a)))) ∙ sym (iterate (gf_power 2) times_x two_power_suc 255 0 (log (suc a)) (log_lt (suc a) p h))
    ∙ log_right a (le_of_suc-le-suc h)

log_two_power : (k : ℕ) → k < 255 → log (gf_power 2 k) ≡ k
unfolding gf_power
log_two_power k h =
    ap (λ (n : ℕ). log (gf_power 2 n)) (sym (zero-add k)) ∙ sym (image log 0 (gf_power 2) times_x two_power_suc 255 0 k h)
    ∙ ap (λ (xs : List ℕ). get_or xs k 0) log_listed ∙ get_or-range_with_len 0 255 k 0 h ∙ zero-add k

-- the first 255 powers of 2 are distinct
pub two_power_distinct : (i j : ℕ) → i < 255 → j < 255 → gf_power 2 i ≡ gf_power 2 j → i ≡ j
two_power_distinct i j hi hj e = sym (log_two_power i hi) ∙ ap log e ∙ log_two_power j hj

-- what a nonzero byte is multiplied by to give 1
unfoldable pub gf_inverse : ℕ → ℕ
gf_inverse a = gf_power 2 (255 - log a)

pub gf_inverse_lt : (a : ℕ) → gf_inverse a < 256
unfolding gf_inverse
gf_inverse_lt a = two_power_lt (255 - log a)

pub mul_inverse : (a : ℕ) → 0 < a → a < 256 → gf_mul a (gf_inverse a) ≡ 1
unfolding gf_inverse
mul_inverse a p h =
    let l : log a < 255 = log_lt a p h in
    let s : log a + (255 - log a) ≡ 255 = omega arith in
    ap (λ (x : ℕ). gf_mul x (gf_power 2 (255 - log a))) (sym (two_power_log a p h)) ∙ two_power_add (log a) (255 - log a) ∙ ap (gf_power 2) s ∙ two_power_255

-- a product is 0 only where a factor is
pub no_zero_divisors : (a b : ℕ) → a < 256 → b < 256 → gf_mul a b ≡ 0 → (a ≡ 0) ⊎ (b ≡ 0)
no_zero_divisors a b ha hb e = elim (ℕ_discrete b 0) [ yes z ↦ inr z | no n ↦ inl (gone (omega arith)) ]
  where
    gone : 0 < b → a ≡ 0
    gone p =
        sym (mul_one a ha) ∙ ap (gf_mul a) (sym (mul_inverse b p hb)) ∙ sym (mul_assoc a b (gf_inverse b) ha hb (gf_inverse_lt b))
        ∙ ap (λ (x : ℕ). gf_mul x (gf_inverse b)) e ∙ mul_zero_left (gf_inverse b)

pub two_power_ne_zero : (k : ℕ) → gf_power 2 k ≡ 0 → ⊥
unfolding gf_power
two_power_ne_zero zero e = omega arith
two_power_ne_zero (suc k) e = elim (no_zero_divisors (gf_power 2 k) 2 (two_power_lt k) (lit< tt) e) [ inl z ↦ two_power_ne_zero k z | inr z ↦ omega arith ]
