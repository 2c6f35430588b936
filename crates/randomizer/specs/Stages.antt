-- The randomizer's sixteen stages, as a number below 65,536: stage j is its bit j - 1.
use Rattle.std.specs.Prelude.{ℕ, zero, suc, ◌+◌, ◌-◌, ◌*◌, ◌/◌, ◌%◌, ◌^◌, List, [], ◌∷◌, bit_xor}

-- stage j of the state s
abbrev pub stage : ℕ → ℕ → ℕ
stage s j = s / 2 ^ (j - 1) % 2

-- at the start of a field stages 8, 9, 13, 14, 15 and 16 are one
abbrev pub start : ℕ
start = 2 ^ 7 + 2 ^ 8 + 2 ^ 12 + 2 ^ 13 + 2 ^ 14 + 2 ^ 15

-- stages 2, 4, 7, 8, 12, 13 and 14, which a step inverts where stage 16 was one
abbrev pub taps : ℕ
taps = 2 ^ 1 + 2 ^ 3 + 2 ^ 6 + 2 ^ 7 + 2 ^ 11 + 2 ^ 12 + 2 ^ 13

-- one step: each stage takes the one before it, stage 1 takes stage 16, and the taps are inverted where that was one
unfoldable pub next : ℕ → ℕ
next s = bit_xor (s % 2 ^ 15 * 2 + stage s 16) (stage s 16 * taps)

-- the state k steps after s
unfoldable pub after : ℕ → ℕ → ℕ
after zero s = s
after (suc k) s = after k (next s)

-- the number whose bits, the lowest first, are the named stages of s
unfoldable pub number_of : ℕ → List ℕ → ℕ
number_of s [] = 0
number_of s (j ∷ js) = number_of s js * 2 + stage s j

-- the byte of a state: its bits 0 to 7 are stages 1, 3, 4, 7, 11, 12, 13 and 14
unfoldable pub byte_of : ℕ → ℕ
byte_of s = number_of s (1 ∷ 3 ∷ 4 ∷ 7 ∷ 11 ∷ 12 ∷ 13 ∷ 14 ∷ [])

-- the n bytes from the state s on, one for each step
unfoldable pub keys_from : ℕ → ℕ → List ℕ
keys_from zero s = []
keys_from (suc n) s = byte_of s ∷ keys_from n (next s)

-- byte k of a field's sequence
unfoldable pub key : ℕ → ℕ
key k = byte_of (after k start)
