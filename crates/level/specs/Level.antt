-- The eight levels −7, −5, .., +7 of a symbol, and the three bits that each stands for.
use Rattle.std.specs.Prelude.{◌≡◌, ℕ, ◌+◌, ◌-◌, ◌*◌, ◌/◌, ◌%◌, Bool, true, false, cond, List, [], ◌∷◌, ℤ, pos, negsuc, ◌-ℤ◌, Some, None, Option, ◌==◌, nat_le, nat_lt}
use Rattle.level.specs.declared.Bits.{Bits}

-- a bit as a number
abbrev pub bit : Bool → ℕ
bit b = cond b 1 0

-- the level of three bits: 2 × (4 × Z2 + 2 × Z1 + Z0) − 7
abbrev pub level_of : Bits → ℤ
level_of t = pos (2 * (4 * bit t.z2 + 2 * bit t.z1 + bit t.z0)) -ℤ pos 7

-- the number Z from 0 to 7 of a level: half of the level plus 7
abbrev pub z_of : ℤ → ℕ
z_of (pos n) = (n + 7) / 2
z_of (negsuc n) = (6 - n) / 2

-- the three bits of a level
abbrev pub bits_of : ℤ → Bits
bits_of v = record { z2 = nat_le 4 (z_of v); z1 = nat_le 2 (z_of v % 4); z0 = (z_of v % 2 == 1) }

-- whether a number is a level: odd, and from −7 to 7
abbrev pub is_level : ℤ → Bool
is_level (pos n) = cond (nat_lt n 8) (n % 2 == 1) false
is_level (negsuc n) = cond (nat_lt n 7) (n % 2 == 0) false

-- whether all symbols are levels
abbrev pub all_levels : List ℤ → Bool
all_levels [] = true
all_levels (x ∷ xs) = cond (is_level x) (all_levels xs) false

-- the bits of a symbol, where it is a level
abbrev pub symbol_bits : ℤ → Option Bits
symbol_bits v = cond (is_level v) (Some (bits_of v)) None

-- bits and levels stand for each other
pub record LevelLaws : Type 0 where
  pub bits_make_a_level : (t : Bits) → is_level (level_of t) ≡ true
  pub bits_come_back : (t : Bits) → bits_of (level_of t) ≡ t
  pub levels_come_back : (v : ℤ) → is_level v ≡ true → level_of (bits_of v) ≡ v
