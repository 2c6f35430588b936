-- What the two tables hold: with them a product of bytes is one sum of logarithms, also where a byte is 0.
use Rattle.std.specs.Prelude.{◌≡◌, ℕ, ◌<◌, ◌≤◌, cond, nat_lt}
use Rattle.galois.specs.Field.{gf_power}

-- the entry k of the table of powers: the powers of 2 twice round, and zeros from 510 on
abbrev pub power_or_zero : ℕ → ℕ
power_or_zero k = cond (nat_lt k 510) (gf_power 2 k) 0

-- l is the entry a of the table of logarithms: 2 to the l is a, and the byte 0 has 510
pub record Logarithm (a l : ℕ) : Type 0 where
  pub of_zero : a ≡ 0 → l ≡ 510
  pub back : 0 < a → gf_power 2 l ≡ a
  pub small : 0 < a → l < 255
  pub most : l ≤ 510
