-- The step, the byte of a state and the next bytes as one number are linear over xor.
use Rattle.std.proofs.Common.{◌≡◌, ℕ, zero, suc, ◌+◌, ◌-◌, ◌*◌, ◌/◌, ◌%◌, ◌^◌, ◌<◌, List, [], ◌∷◌, sym, refl, ap, ◌∙◌, ap₂, mod-lt, div-add-mod', zero-mul, arith, lit<}
use lib.Bits.{bit_xor, xor_block, xor_shr, xor_mod, xor_assoc, xor_comm, xor_self, xor_zero_r, xor_shifted}
use Rattle.randomizer.specs.Stages.{stage, taps, next, after, number_of, byte_of}

-- a function is linear over xor
abbrev pub Linear : (ℕ → ℕ) → Type 0
Linear f = (a b : ℕ) → f (bit_xor a b) ≡ bit_xor (f a) (f b)

-- two that are combined in turn, in the other order
xor_left : (a b c : ℕ) → bit_xor a (bit_xor b c) ≡ bit_xor b (bit_xor a c)
xor_left a b c = sym (xor_assoc a b c) ∙ ap (λ (x : ℕ). bit_xor x c) (xor_comm a b) ∙ xor_assoc b a c

-- two pairs combined, regrouped
xor_swap : (a b c d : ℕ) → bit_xor (bit_xor a b) (bit_xor c d) ≡ bit_xor (bit_xor a c) (bit_xor b d)
xor_swap a b c d = simp (xor_assoc, xor_left b c d)

-- a stage is a bit
pub stage_lt : (s j : ℕ) → stage s j < 2
stage_lt s j = mod-lt (s / 2 ^ (j - 1)) (lit< tt)

-- a stage of two states combined
pub stage_xor : (j : ℕ) → Linear (λ s. stage s j)
stage_xor j a b = ap (λ (x : ℕ). x % 2) (xor_shr a b (j - 1)) ∙ xor_mod (a / 2 ^ (j - 1)) (b / 2 ^ (j - 1)) 1

-- two bits, each times one number
bit_mul : (n p q : ℕ) → p < 2 → q < 2 → bit_xor p q * n ≡ bit_xor (p * n) (q * n)
bit_mul n zero q hp hq = ap (λ (x : ℕ). bit_xor x (q * n)) (sym (zero-mul n))
bit_mul n (suc zero) zero hp hq = rw zero-mul (sym (xor_zero_r (1 * n)))
bit_mul n (suc zero) (suc zero) hp hq = zero-mul n ∙ sym (xor_self (1 * n))
bit_mul n (suc zero) (suc (suc q)) hp hq = absurd (omega arith)
bit_mul n (suc (suc p)) q hp hq = absurd (omega arith)

-- the step is linear
next_xor : Linear next
unfolding next
next_xor a b =
    let rotated =
    ap₂ (λ (x y : ℕ). x * 2 + y) (xor_mod a b 15) (stage_xor 16 a b)
    ∙ sym (xor_block 1 (a % 2 ^ 15) (b % 2 ^ 15) (stage a 16) (stage b 16) (stage_lt a 16) (stage_lt b 16)) in
    let tapped = ap (λ (x : ℕ). x * taps) (stage_xor 16 a b) ∙ bit_mul taps (stage a 16) (stage b 16) (stage_lt a 16) (stage_lt b 16) in
    ap₂ bit_xor rotated tapped ∙ xor_swap (a % 2 ^ 15 * 2 + stage a 16) (b % 2 ^ 15 * 2 + stage b 16) (stage a 16 * taps) (stage b 16 * taps)

-- so are several steps
pub after_xor : (k : ℕ) → Linear (after k)
unfolding after
after_xor zero a b = refl
after_xor (suc k) a b = ap (after k) (next_xor a b) ∙ after_xor k (next a) (next b)

-- so is a number made of stages
number_xor : (js : List ℕ) → Linear (λ s. number_of s js)
unfolding number_of
number_xor [] a b = refl
number_xor (j ∷ js) a b =
    ap₂ (λ (x y : ℕ). x * 2 + y) (number_xor js a b) (stage_xor j a b)
    ∙ sym (xor_block 1 (number_of a js) (number_of b js) (stage a j) (stage b j) (stage_lt a j) (stage_lt b j))

-- so is the byte of a state
byte_xor : Linear byte_of
unfolding byte_of
byte_xor = number_xor (1 ∷ 3 ∷ 4 ∷ 7 ∷ 11 ∷ 12 ∷ 13 ∷ 14 ∷ [])

-- it is a byte
pub byte_lt : (s : ℕ) → byte_of s < 256
unfolding byte_of number_of
byte_lt s = omega arith

-- the n bytes from the state s on as one number, the first in its lowest eight bits
unfoldable pub packed : ℕ → ℕ → ℕ
packed zero s = 0
packed (suc n) s = packed n (next s) * 256 + byte_of s

-- so are the next bytes as one number
pub packed_xor : (n : ℕ) → Linear (packed n)
unfolding packed
packed_xor zero a b = refl
packed_xor (suc n) a b =
    ap₂ (λ (x y : ℕ). x * 256 + y) (ap (packed n) (next_xor a b) ∙ packed_xor n (next a) (next b)) (byte_xor a b)
    ∙ sym (xor_block 8 (packed n (next a)) (packed n (next b)) (byte_of a) (byte_of b) (byte_lt a) (byte_lt b))

-- a linear function of a state is that of its high half and that of its low half
pub halves : (f : ℕ → ℕ) → Linear f → (s : ℕ) → bit_xor (f (s / 256 * 256)) (f (s % 256)) ≡ f s
halves f l s = sym (l (s / 256 * 256) (s % 256)) ∙ ap f (xor_shifted (s / 256) 8 (s % 256) (mod-lt s (lit< tt)) ∙ div-add-mod' s 256)
