-- The register's two words: the bytes at their ends, and the moves by one and by two bytes.
use Rattle.std.proofs.Common.{◌≡◌, ℕ, suc, ◌+◌, ◌*◌, ◌/◌, ◌%◌, ◌^◌, ◌<◌, List, ◌++◌, length, sym, ap, ◌∙◌, ap₂, arith}
use lib.Bits.{bit_xor, xor_block, xor_lt}
use Rattle.rows.specs.Parity.{row_sum, scaled}
use Rattle.rows.proofs.Division.{length_generator}
use Rattle.rows.proofs.Entries.{bytes_generator}
use Rattle.rows.proofs.Steps.{step_cons, two_steps}
use Rattle.reed_solomon.specs.Held.{digits, step, left_20, left_21}
use Rattle.reed_solomon.proofs.Digits.{length_digits, digits_xor, digits_split, digits_below, digits_up}

-- the bytes of both words in a row
pub digits_words : (h l : ℕ) → l < 2 ^ 32 → digits 20 (h * 2 ^ 32 + l) ≡ digits 16 h ++ digits 4 l
digits_words h l hl =
    let w : ℕ = h * 2 ^ 32 + l in
    let a : w / 2 ^ 32 ≡ h = omega arith in
    let b : w % 2 ^ 32 ≡ l = omega arith in
    digits_split 16 4 w ∙ ap₂ (λ (xs ys : List ℕ). xs ++ ys) (ap (digits 16) a) (sym (digits_below 4 4 w (omega arith)) ∙ ap (digits 4) b)

-- the two words moved up by one byte, and two more words added
one_up : (h l a b : ℕ) → l < 2 ^ 32 → b < 2 ^ 32
    → bit_xor (h % 2 ^ 120 * 256 + l / 2 ^ 24) a * 2 ^ 32 + bit_xor (l % 2 ^ 24 * 256) b ≡ bit_xor ((h * 2 ^ 32 + l) % 2 ^ 152 * 256) (a * 2 ^ 32 + b)
one_up h l a b hl hb =
    let c : l % 2 ^ 24 * 256 < 2 ^ 32 = omega arith in
    let e : (h % 2 ^ 120 * 256 + l / 2 ^ 24) * 2 ^ 32 + l % 2 ^ 24 * 256 ≡ (h * 2 ^ 32 + l) % 2 ^ 152 * 256 = omega arith in
    sym (xor_block 32 (h % 2 ^ 120 * 256 + l / 2 ^ 24) a (l % 2 ^ 24 * 256) b c hb) ∙ ap (λ (x : ℕ). bit_xor x (a * 2 ^ 32 + b)) e

-- the two words moved up by two bytes, and four more words added
two_up : (h l a b c d : ℕ) → l < 2 ^ 32 → b < 2 ^ 32 → d < 2 ^ 32
    → bit_xor (bit_xor (h % 2 ^ 112 * 65536 + l / 65536) a) c * 2 ^ 32 + bit_xor (bit_xor (l % 65536 * 65536) b) d ≡ bit_xor (bit_xor ((h * 2 ^ 32 + l) % 2 ^ 144 * 65536) (a * 2 ^ 32 + b)) (c * 2 ^ 32 + d)
two_up h l a b c d hl hb hd =
    let A : ℕ = h % 2 ^ 112 * 65536 + l / 65536 in
    let B : ℕ = l % 65536 * 65536 in
    let hB : B < 2 ^ 32 = omega arith in
    let e : A * 2 ^ 32 + B ≡ (h * 2 ^ 32 + l) % 2 ^ 144 * 65536 = omega arith in
    sym (xor_block 32 (bit_xor A a) c (bit_xor B b) d (xor_lt 32 B b hB hb) hd)
    ∙ ap (λ (x : ℕ). bit_xor x (c * 2 ^ 32 + d)) (sym (xor_block 32 A a B b hB hb) ∙ ap (λ (x : ℕ). bit_xor x (a * 2 ^ 32 + b)) e)

-- the first of the 20 bytes
first_byte : (h l : ℕ) → h < 2 ^ 128 → l < 2 ^ 32 → h / 2 ^ 120 ≡ (h * 2 ^ 32 + l) / 2 ^ 152 % 256
first_byte h l hh hl = omega arith

-- the second of the 20 bytes
second_byte : (h l : ℕ) → l < 2 ^ 32 → h / 2 ^ 112 % 256 ≡ (h * 2 ^ 32 + l) / 2 ^ 144 % 256
second_byte h l hl = omega arith

-- one step of the division on the two words
pub rolled : (h l b th tl : ℕ) → h < 2 ^ 128 → l < 2 ^ 32 → tl < 2 ^ 32 → digits 20 (th * 2 ^ 32 + tl) ≡ scaled (bit_xor b (h / 2 ^ 120)) left_20
    → digits 20 (bit_xor (h % 2 ^ 120 * 256 + l / 2 ^ 24) th * 2 ^ 32 + bit_xor (l % 2 ^ 24 * 256) tl) ≡ step (digits 20 (h * 2 ^ 32 + l)) b
unfolding digits
rolled h l b th tl hh hl htl e =
    let w : ℕ = h * 2 ^ 32 + l in
    ap (digits 20) (one_up h l th tl hl htl)
    ∙ digits_xor 20 (w % 2 ^ 152 * 256) (th * 2 ^ 32 + tl)
    ∙ ap₂ row_sum (digits_up 19 1 w) (e ∙ ap (λ (x : ℕ). scaled (bit_xor b x) left_20) (first_byte h l hh hl))
    ∙ sym (step_cons left_20 (w / 2 ^ 152 % 256) (digits 19 w) b)

-- two steps of the division on the two words
pub rolled_two : (h l a b th tl uh ul : ℕ) → h < 2 ^ 128 → l < 2 ^ 32 → a < 256 → tl < 2 ^ 32 → ul < 2 ^ 32
    → digits 20 (th * 2 ^ 32 + tl) ≡ scaled (bit_xor a (h / 2 ^ 120)) left_21 → digits 20 (uh * 2 ^ 32 + ul) ≡ scaled (bit_xor b (h / 2 ^ 112 % 256)) left_20
    → digits 20 (bit_xor (bit_xor (h % 2 ^ 112 * 65536 + l / 65536) th) uh * 2 ^ 32 + bit_xor (bit_xor (l % 65536 * 65536) tl) ul) ≡ step (step (digits 20 (h * 2 ^ 32 + l)) a) b
unfolding digits
rolled_two h l a b th tl uh ul hh hl ha htl hul e f =
    let w : ℕ = h * 2 ^ 32 + l in
    let top : w / 2 ^ 152 % 256 < 256 = omega arith in
    let n : length left_20 ≡ suc (suc (length (digits 18 w))) = length_generator 20 ∙ ap (λ (k : ℕ). suc (suc k)) (sym (length_digits 18 w)) in
    ap (digits 20) (two_up h l th tl uh ul hl htl hul)
    ∙ digits_xor 20 (bit_xor (w % 2 ^ 144 * 65536) (th * 2 ^ 32 + tl)) (uh * 2 ^ 32 + ul)
    ∙ ap₂ row_sum
    (digits_xor 20 (w % 2 ^ 144 * 65536) (th * 2 ^ 32 + tl) ∙ ap₂ row_sum (digits_up 18 2 w) (e ∙ ap (λ (x : ℕ). scaled (bit_xor a x) left_21) (first_byte h l hh hl)))
    (f ∙ ap (λ (x : ℕ). scaled (bit_xor b x) left_20) (second_byte h l hl))
    ∙ sym (two_steps left_20 (w / 2 ^ 152 % 256) (w / 2 ^ 144 % 256) (digits 18 w) a b n (bytes_generator 20) top ha)
