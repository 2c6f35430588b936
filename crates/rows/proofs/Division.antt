-- Division by the generator, at the places where the generator vanishes: the coded row is a code row.
use Rattle.std.proofs.Common.{◌≡◌, ℕ, zero, suc, ◌+◌, ◌<◌, List, [], ◌∷◌, ◌++◌, length, replicate, sym, refl, ap, ◌∙◌, subst, ap₂, not-suc-le-zero, arith, length-append}
use native.Mathlib.Decide.{ℕ_discrete}
use lib.Bits.{bit_xor}
use lib.ListN.{length-map, length-replicate}
use Rattle.std.proofs.lemmas.List.{append_assoc, append-nil}
use Rattle.galois.specs.Field.{gf_mul, gf_power}
use Rattle.rows.specs.Parity.{scaled, times_factor, generator, division_step, division, parity}
use Rattle.rows.proofs.Bytes.{Byte, to_byte, add, mul, nil, one, to_byte_xor, to_byte_mul}
use Rattle.rows.proofs.Ring.{ring, add_self, nil_mul, mul_nil, same}
use Rattle.rows.proofs.Values.{bytes, power, value, place, power_suc, power_zero, value_nil, value_cons, value_one, value_append, value_sum, length_sum, value_scaled, to_byte_power}

-- ---- the generator
-- the product has one coefficient more
length_factor : (a c : ℕ) (g : List ℕ) → length (times_factor a c g) ≡ suc (length g)
unfolding times_factor
length_factor a c [] = refl
length_factor a c (x ∷ xs) = ap suc (length_factor a x xs)

-- with its first coefficient, the product has the product of the values
factor_value : (a c : ℕ) (g : List ℕ) (x : Byte)
    → add (mul (to_byte c) (mul (power x (length g)) x)) (value (bytes (times_factor a c g)) x) ≡ mul (add (mul (to_byte c) (power x (length g))) (value (bytes g) x)) (add x (to_byte a))
unfolding times_factor
factor_value a c [] x =
    ap₂ (λ (y z : Byte). add (mul (to_byte c) (mul y x)) z) (power_zero x) (value_one (gf_mul a c) x ∙ to_byte_mul a c)
    ∙ only (to_byte a) (to_byte c)
    ∙ sym (ap₂ (λ (y z : Byte). mul (add (mul (to_byte c) y) z) (add x (to_byte a))) (power_zero x) (value_nil x))
  where
    only : (a c : Byte) → add (mul c (mul one x)) (mul a c) ≡ mul (add (mul c one) nil) (add x a)
    only a c = simp ring
factor_value a c (b ∷ bs) x =
    ap (add (mul (to_byte c) (mul (power x (suc (length bs))) x)))
    (value_cons (bit_xor b (gf_mul a c)) (times_factor a b bs) x
    ∙ ap₂ (λ (y : Byte) (n : ℕ). add (mul y (power x n)) (value (bytes (times_factor a b bs)) x)) (to_byte_xor b (gf_mul a c) ∙ ap (add (to_byte b)) (to_byte_mul a c)) (length_factor a b bs))
    ∙ ap (λ (y : Byte). add (mul (to_byte c) (mul y x)) (add (mul (add (to_byte b) (mul (to_byte a) (to_byte c))) y) (value (bytes (times_factor a b bs)) x))) (power_suc x (length bs))
    ∙ more (to_byte a) (to_byte b) (to_byte c) (power x (length bs)) (value (bytes bs) x) (value (bytes (times_factor a b bs)) x) (factor_value a b bs x)
    ∙ sym (ap₂ (λ (y z : Byte). mul (add (mul (to_byte c) y) z) (add x (to_byte a))) (power_suc x (length bs)) (value_cons b bs x))
  where
    turn : (a b c p v : Byte) → add (mul c (mul (mul p x) x)) (add (mul (add b (mul a c)) (mul p x)) v) ≡ add (mul (mul c (mul p x)) (add x a)) (add (mul b (mul p x)) v)
    turn a b c p v = simp ring

    more : (a b c p r v : Byte) → add (mul b (mul p x)) v ≡ mul (add (mul b p) r) (add x a)
        → add (mul c (mul (mul p x) x)) (add (mul (add b (mul a c)) (mul p x)) v) ≡ mul (add (mul c (mul p x)) (add (mul b p) r)) (add x a)
    more a b c p r v e = turn a b c p v ∙ ap (add (mul (mul c (mul p x)) (add x a))) e ∙ simp ring

-- the generator has p coefficients behind the first
pub length_generator : (p : ℕ) → length (generator p) ≡ p
unfolding generator
length_generator zero = refl
length_generator (suc p) = length_factor (gf_power 2 p) 1 (generator p) ∙ ap suc (length_generator p)

-- with its first coefficient the generator vanishes at the first p powers of 2
generator_root : (p j : ℕ) → j < p → add (power (place j) p) (value (bytes (generator p)) (place j)) ≡ nil
unfolding generator
generator_root zero j h = absurd (not-suc-le-zero h)
generator_root (suc p) j h =
    let X : Byte = place j in
    let G : Byte = add (power X p) (value (bytes (generator p)) X) in
    let step : add (power X (suc p)) (value (bytes (generator (suc p))) X) ≡ mul G (add X (place p)) =
    ap (λ (y : Byte). add y (value (bytes (generator (suc p))) X)) (power_suc X p ∙ unit (mul (power X p) X))
    ∙ subst (λ (n : ℕ). add (mul one (mul (power X n) X)) (value (bytes (generator (suc p))) X) ≡ mul (add (mul one (power X n)) (value (bytes (generator p)) X)) (add X (to_byte (gf_power 2 p))))
    (length_generator p) (factor_value (gf_power 2 p) 1 (generator p) X)
    ∙ ap₂ (λ (y z : Byte). mul (add y (value (bytes (generator p)) X)) (add X z)) (sym (unit (power X p))) (to_byte_power 2 p) in
    step
    ∙ elim (ℕ_discrete j p) [
      | yes e ↦ ap (λ (k : ℕ). mul G (add X (place k))) (sym e) ∙ ap (mul G) (add_self X) ∙ mul_nil G
      | no e ↦ ap (λ (y : Byte). mul y (add X (place p))) (generator_root p j (omega arith)) ∙ nil_mul (add X (place p))
    ]
  where
    unit : (y : Byte) → y ≡ mul one y
    unit y = simp ring

-- so at the first p powers of 2 its other coefficients have the value of X^p
pub generator_value : (p j : ℕ) → j < p → value (bytes (generator p)) (place j) ≡ power (place j) p
generator_value p j h = sym (same (power (place j) p) (value (bytes (generator p)) (place j)) (generator_root p j h))

-- ---- the division
-- r has, at the first p powers of 2, the values of the row moved up by p places
abbrev pub Left : ℕ → List ℕ → List ℕ → Type 0
Left p row r = (j : ℕ) → j < p → value (bytes r) (place j) ≡ mul (value (bytes row) (place j)) (power (place j) p)

-- a step keeps the length
pub length_step : (g r : List ℕ) (b : ℕ) → length g ≡ length r → length (division_step g r b) ≡ length r
unfolding division_step
length_step g [] b e = refl
length_step g (a ∷ r) b e =
    let l : length (r ++ (0 ∷ [])) ≡ suc (length r) = length-append r (0 ∷ []) ∙ (let n : length r + 1 ≡ suc (length r) = omega arith in n) in
    length_sum (r ++ (0 ∷ [])) (scaled (bit_xor b a) g) (l ∙ sym (length-map g (gf_mul (bit_xor b a)) ∙ e)) ∙ l

-- one step keeps what is left so
pub left_more : (p : ℕ) (g row r : List ℕ) (b : ℕ) → length g ≡ p → length r ≡ p → ((j : ℕ) → j < p → value (bytes g) (place j) ≡ power (place j) p)
    → Left p row r → Left p (row ++ (b ∷ [])) (division_step g r b)
unfolding division_step
left_more zero g row r b lg lr G V j h = absurd (not-suc-le-zero h)
left_more (suc q) g row [] b lg lr G V j h = absurd (omega arith)
left_more (suc q) g row (a ∷ r) b lg lr G V j h =
    let X : Byte = place j in
    let P : Byte = power X q in
    let R : Byte = value (bytes r) X in
    let D : Byte = value (bytes row) X in
    let n : length r ≡ q = omega arith in
    let l : length (r ++ (0 ∷ [])) ≡ length (scaled (bit_xor b a) g) = length-append r (0 ∷ []) ∙ (let k : length r + 1 ≡ length g = omega arith in k) ∙ sym (length-map g (gf_mul (bit_xor b a))) in
    let up : value (bytes (r ++ (0 ∷ []))) X ≡ mul R X =
    value_append r (0 ∷ []) X ∙ ap₂ (λ (y z : Byte). add (mul R y) z) (power_suc X 0 ∙ ap (λ (y : Byte). mul y X) (power_zero X)) (value_one 0 X) ∙ simp ring in
    let off : value (bytes (scaled (bit_xor b a) g)) X ≡ mul (add (to_byte b) (to_byte a)) (mul P X) = value_scaled (bit_xor b a) g X ∙ ap₂ mul (to_byte_xor b a) (G j h ∙ power_suc X q) in
    let had : add (mul (to_byte a) P) R ≡ mul D (mul P X) = sym (value_cons a r X ∙ ap (λ (k : ℕ). add (mul (to_byte a) (power X k)) R) n) ∙ V j h ∙ ap (mul D) (power_suc X q) in
    value_sum (r ++ (0 ∷ [])) (scaled (bit_xor b a) g) X l
    ∙ ap₂ add up off
    ∙ turn (to_byte a) (to_byte b) P R X
    ∙ ap (λ (y : Byte). add (mul y X) (mul (to_byte b) (mul P X))) had
    ∙ group D (to_byte b) (mul P X) X
    ∙ sym (ap₂ mul (value_append row (b ∷ []) X ∙ ap₂ (λ (y z : Byte). add (mul D y) z) (power_suc X 0 ∙ ap (λ (y : Byte). mul y X) (power_zero X)) (value_one b X)) (power_suc X q))
  where
    turn : (a b p r x : Byte) → add (mul r x) (mul (add b a) (mul p x)) ≡ add (mul (add (mul a p) r) x) (mul b (mul p x))
    turn a b p r x = simp ring

    group : (d b q x : Byte) → add (mul (mul d q) x) (mul b q) ≡ mul (add (mul d (mul one x)) b) q
    group d b q x = simp ring

-- a row of zeros has the value 0
zeros_value : (p : ℕ) (x : Byte) → value (bytes (replicate p 0)) x ≡ nil
zeros_value zero x = value_nil x
zeros_value (suc p) x = value_cons 0 (replicate p 0) x ∙ ap (add (mul nil (power x (length (replicate p 0))))) (zeros_value p x) ∙ simp ring

-- the division of nothing
pub left_start : (p : ℕ) → Left p [] (replicate p 0)
left_start p j h = zeros_value p (place j) ∙ sym (ap (λ (y : Byte). mul y (power (place j) p)) (value_nil (place j)) ∙ nil_mul (power (place j) p))

-- the whole division keeps the length
pub length_division : (g r xs : List ℕ) → length g ≡ length r → length (division g r xs) ≡ length r
unfolding division
length_division g r [] e = refl
length_division g r (b ∷ bs) e = length_division g (division_step g r b) bs (e ∙ sym (length_step g r b e)) ∙ length_step g r b e

-- the whole division keeps what is left so
left_division : (p : ℕ) (row r xs : List ℕ) → length r ≡ p → Left p row r → Left p (row ++ xs) (division (generator p) r xs)
unfolding division
left_division p row r [] l V = subst (λ (m : List ℕ). Left p m r) (sym (append-nil row)) V
left_division p row r (b ∷ bs) l V =
    subst (λ (m : List ℕ). Left p m (division (generator p) (division_step (generator p) r b) bs)) (append_assoc row (b ∷ []) bs)
    (left_division p (row ++ (b ∷ [])) (division_step (generator p) r b) bs (length_step (generator p) r b (length_generator p ∙ sym l) ∙ l)
    (left_more p (generator p) row r b (length_generator p) l (generator_value p) V))

-- there are p parity bytes
pub length_parity : (p : ℕ) (xs : List ℕ) → length (parity p xs) ≡ p
unfolding parity
length_parity p xs = length_division (generator p) (replicate p 0) xs (length_generator p ∙ sym (length-replicate p 0)) ∙ length-replicate p 0

-- the parity bytes have the values of the data moved up by p places
pub left_parity : (p : ℕ) (xs : List ℕ) → Left p xs (parity p xs)
unfolding parity
left_parity p xs = left_division p [] (replicate p 0) xs (length-replicate p 0) (left_start p)
