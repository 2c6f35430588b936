-- The step in the stages' own words.
use Rattle.std.proofs.Common.{◌≡◌, ℕ, zero, suc, ◌+◌, ◌-◌, ◌*◌, ◌/◌, ◌%◌, ◌^◌, ◌<◌, eqb, sym, ap, ◌∙◌, ap₂, arith, eqb→eq, rules}
use lib.Bits.{bit_xor}
use lib.Pow.{field, mod-mod-pow}
use Rattle.std.proofs.lemmas.Nat.{shr-shr}
use Rattle.tables.proofs.All.{all, below}
use Rattle.randomizer.specs.Stages.{stage, taps, next}
use Rattle.randomizer.specs.Laws.{source, inverted, StepLaw}
use Rattle.randomizer.proofs.Linear.{stage_lt, stage_xor}

-- two bits
two_bits : (p q : ℕ) → p < 2 → q < 2 → bit_xor p q ≡ (p + q) % 2
two_bits p q a b = eqb→eq _ _ (below (λ n. eqb (bit_xor p n) ((p + n) % 2)) 2 (below (λ m. all (λ n. eqb (bit_xor m n) ((m + n) % 2)) 0 2) 2 tt p a) q b)

-- a stage of two states combined
stage_both : (a b j : ℕ) → stage (bit_xor a b) j ≡ (stage a j + stage b j) % 2
stage_both a b j = stage_xor j a b ∙ two_bits (stage a j) (stage b j) (stage_lt a j) (stage_lt b j)

-- the stages that are inverted, by a test at each
tapped : (j t : ℕ) → j < 17 → t < 2 → stage (t * taps) j ≡ inverted j * t
tapped j t h l =
    eqb→eq _ _ (below (λ n. eqb (stage (n * taps) j) (inverted j * n)) 2 (below (λ m. all (λ n. eqb (stage (n * taps) m) (inverted m * n)) 0 2) 17 tt j h) t l)

-- a bit that moved up by one
moved_up : (s i : ℕ) → i < 15 → (s % 2 ^ 15 * 2 + stage s 16) / 2 ^ (1 + i) % 2 ≡ s / 2 ^ i % 2
moved_up s i h =
    let half : (s % 2 ^ 15 * 2 + stage s 16) / 2 ≡ s % 2 ^ 15 = omega arith in
    let whole : 15 ≡ (15 - i) + i = omega arith in
    let more : 15 - i ≡ (14 - i) + 1 = omega arith in
    ap (λ (x : ℕ). x % 2) (sym (shr-shr (s % 2 ^ 15 * 2 + stage s 16) 1 i) ∙ ap (λ (x : ℕ). x / 2 ^ i) (half ∙ ap (λ (k : ℕ). s % 2 ^ k) whole) ∙ field s (15 - i) i ∙ ap (λ (k : ℕ). s / 2 ^ i % 2 ^ k) more)
    ∙ mod-mod-pow (s / 2 ^ i) (14 - i) 1

-- each stage takes the one before
rotated : (s j : ℕ) → 0 < j → j < 17 → stage (s % 2 ^ 15 * 2 + stage s 16) j ≡ stage s (source j)
rotated s zero p h = absurd (omega arith)
rotated s (suc zero) p h = search rules
rotated s (suc (suc i)) p h =
    let up : suc (suc i) - 1 ≡ 1 + i = omega arith in
    let here : suc i - 1 ≡ i = omega arith in
    ap (λ (k : ℕ). (s % 2 ^ 15 * 2 + stage s 16) / 2 ^ k % 2) up ∙ moved_up s i (omega arith) ∙ ap (λ (k : ℕ). s / 2 ^ k % 2) (sym here)

-- the law of the step, at any state and each of the sixteen stages
pub step_law : StepLaw
unfolding next
step_law s j p h =
    stage_both (s % 2 ^ 15 * 2 + stage s 16) (stage s 16 * taps) j
    ∙ ap₂ (λ (x y : ℕ). (x + y) % 2) (rotated s j p h) (tapped j (stage s 16) h (stage_lt s 16))
