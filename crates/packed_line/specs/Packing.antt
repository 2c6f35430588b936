-- How three bytes hold eight symbols.
use Rattle.std.specs.Prelude.{ℕ, ◌+◌, ◌*◌, ◌/◌, ◌%◌, List, [], ◌∷◌, ◌++◌, ℤ, pos, ◌-ℤ◌}
use Rattle.line.specs.Slots.{block}

-- the level of a number Z from 0 to 7: 2 × Z − 7
abbrev pub level_from : ℕ → ℤ
level_from z = pos (2 * z) -ℤ pos 7

-- the eight symbols of 24 bits, three bits each, the first symbol in the highest bits
abbrev pub eight_symbols : ℕ → List ℤ
eight_symbols n =
    level_from (n / 2097152 % 8) ∷ level_from (n / 262144 % 8) ∷ level_from (n / 32768 % 8) ∷ level_from (n / 4096 % 8) ∷
    level_from (n / 512 % 8) ∷ level_from (n / 64 % 8) ∷ level_from (n / 8 % 8) ∷ level_from (n % 8) ∷ []

-- the 24 bits of three bytes, the first byte highest
abbrev pub three_bytes : ℕ → ℕ → ℕ → ℕ
three_bytes a b c = a * 65536 + b * 256 + c

-- the symbols in packed bytes, eight for each three bytes
abbrev pub unpacked : List ℕ → List ℤ
unpacked [] = []
unpacked (a ∷ []) = []
unpacked (a ∷ b ∷ []) = []
unpacked (a ∷ b ∷ c ∷ bytes) = eight_symbols (three_bytes a b c) ++ unpacked bytes

-- the segment in slot k, packed in the bytes from 312 × k on
abbrev pub packed_slot : List ℕ → ℕ → List ℤ
packed_slot memory k = unpacked (block 312 memory k)
