-- The two sequences of bits in a field sync, PN511 and PN63, by their recurrences.
use Rattle.std.specs.Prelude.{◌≡◌, ℕ, zero, suc, ◌+◌, ◌*◌, ◌/◌, ◌%◌, Bool, true, false, [], ◌∷◌, map, ◌==◌}
use Rattle.std.specs.List.{range_with_len}
use Rattle.level.specs.Level.{bit}

-- nine bits of PN511 as a number, the first one lowest, give the nine bits one further on
abbrev pub next511 : ℕ → ℕ
next511 w = w / 2 + 256 * ((w / 128 + w / 64 + w / 16 + w / 8 + w / 2 + w) % 2)

-- six bits of PN63 as a number, the first one lowest, give the six bits one further on
abbrev pub next63 : ℕ → ℕ
next63 w = w / 2 + 32 * ((w / 2 + w) % 2)

-- the bits n to n + 8 of PN511 as a number
unfoldable pub window511 : ℕ → ℕ
window511 zero = 0b010000000
window511 (suc n) = next511 (window511 n)

-- the bits n to n + 5 of PN63 as a number
unfoldable pub window63 : ℕ → ℕ
window63 zero = 0b100111
window63 (suc n) = next63 (window63 n)

-- whether the lowest bit of a number is one
abbrev pub odd : ℕ → Bool
odd w = w % 2 == 1

-- bit n of PN511
abbrev pub pn511 : ℕ → Bool
pn511 n = odd (window511 n)

-- bit n of PN63
abbrev pub pn63 : ℕ → Bool
pn63 n = odd (window63 n)

-- the first bits of both sequences, and how each next bit is the sum mod 2 of earlier ones
pub record Recurrences : Type 0 where
  pub pn511_starts : map pn511 (range_with_len 0 9) ≡ false ∷ false ∷ false ∷ false ∷ false ∷ false ∷ false ∷ true ∷ false ∷ []
  pub pn511_goes_on : (n : ℕ) → bit (pn511 (n + 9)) ≡ (bit (pn511 (n + 7)) + bit (pn511 (n + 6)) + bit (pn511 (n + 4)) + bit (pn511 (n + 3)) + bit (pn511 (n + 1)) + bit (pn511 n)) % 2
  pub pn63_starts : map pn63 (range_with_len 0 6) ≡ true ∷ true ∷ true ∷ false ∷ false ∷ true ∷ []
  pub pn63_goes_on : (n : ℕ) → bit (pn63 (n + 6)) ≡ (bit (pn63 (n + 1)) + bit (pn63 n)) % 2
