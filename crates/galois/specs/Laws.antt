-- What makes the bytes a field, with xor as the sum: the laws of the product, and the powers of 2.
use Rattle.std.specs.Prelude.{◌≡◌, ℕ, ◌<◌, ◌⊎◌, bit_xor}
use Rattle.galois.specs.Field.{gf_mul, gf_power}

-- the laws of a field on the bytes, and that the powers of 2 are all its nonzero elements, each once
pub record FieldLaws : Type 0 where
  pub closed : (a b : ℕ) → a < 256 → b < 256 → gf_mul a b < 256
  pub commutative : (a b : ℕ) → a < 256 → b < 256 → gf_mul a b ≡ gf_mul b a
  pub associative : (a b c : ℕ) → a < 256 → b < 256 → c < 256 → gf_mul (gf_mul a b) c ≡ gf_mul a (gf_mul b c)
  pub distributive : (a b c : ℕ) → gf_mul a (bit_xor b c) ≡ bit_xor (gf_mul a b) (gf_mul a c)
  pub one_neutral : (a : ℕ) → a < 256 → gf_mul a 1 ≡ a
  pub invertible : (a : ℕ) → 0 < a → a < 256 → (b : ℕ) × (b < 256) × (gf_mul a b ≡ 1)
  pub no_zero_divisors : (a b : ℕ) → a < 256 → b < 256 → gf_mul a b ≡ 0 → (a ≡ 0) ⊎ (b ≡ 0)
  pub powers_distinct : (i j : ℕ) → i < 255 → j < 255 → gf_power 2 i ≡ gf_power 2 j → i ≡ j
  pub powers_all : (a : ℕ) → 0 < a → a < 256 → (k : ℕ) × (k < 255) × (gf_power 2 k ≡ a)
