-- Two outputs that wait have two cells, where the branches' cells lie apart.
use Rattle.std.proofs.Common.{◌≡◌, ℕ, ◌+◌, ◌*◌, ◌/◌, ◌%◌, ◌<◌, ap, mod-lt, mul-le-mul_left, mul-add, arith}
use native.Mathlib.Nat.{div-add-mod, add-mul-div_left, add-mul-mod_self_left, add-mod_right}
use Rattle.std.proofs.lemmas.Bool.{cases_order}
use Rattle.delay.specs.Ring.{cell, Apart}

-- Turns of one branch that are fewer than its cells apart have two slots.
slots_apart : (l a c : ℕ) → a < c → c < a + l → a % l ≡ c % l → ⊥
slots_apart l a c p q e =
    let u = div-add-mod a l in
    let v = div-add-mod c l in
    grind (arith, cases_order (a / l) (c / l), mul-le-mul_left {m = a / l + 1} {n = c / l} l, mul-le-mul_left {m = c / l} {n = a / l} l, mul-add l (a / l) 1)

-- Two numbers of one branch, by its turns.
pub same_branch : (b i n l : ℕ) → 0 < b → i % b ≡ n % b → n < i → i < n + b * l → (n / b < i / b) × (i / b < n / b + l)
same_branch b i n l p e q r =
    let u = div-add-mod i b in
    let v = div-add-mod n b in
    let w = mul-add b (n / b) l in
    (grind (arith, mul-le-mul_left {m = i / b} {n = n / b} b), grind (arith, mul-le-mul_left {m = n / b + l} {n = i / b} b))

-- Two outputs that wait have two cells.
pub cells_apart : (b : ℕ) (S L : ℕ → ℕ) → 0 < b → Apart b S L → (n i : ℕ) → n < i → i < n + b * L (i % b) → 0 < L (n % b) → 0 < L (i % b) → cell b S L i ≡ cell b S L n → ⊥
unfolding cell Apart
cells_apart b S L p ap n i q r ln li e =
    let mi = mod-lt i p in
    let mn = mod-lt n p in
    let si = mod-lt (i / b) li in
    let sn = mod-lt (n / b) ln in
    let w : i % b ≡ n % b → (n / b < i / b) × (i / b < n / b + L (i % b)) = λ m. same_branch b i n (L (i % b)) p m q r in
    grind (arith, w, slots_apart (L (i % b)) (n / b) (i / b), ap (i % b) (n % b) mi mn)

-- The last output that input number n settles takes the cell that output number n has left.
pub last_cell : (b : ℕ) (S L : ℕ → ℕ) → 0 < b → (n i : ℕ) → i ≡ n + b * L (i % b) → (i % b ≡ n % b) × (cell b S L i ≡ cell b S L n)
unfolding cell
last_cell b S L p n i e =
    let m = add-mul-mod_self_left n b (L (i % b)) in
    let d = add-mul-div_left n (L (i % b)) p in
    let r = add-mod_right (n / b) (L (i % b)) in
    (grind arith, grind arith)
