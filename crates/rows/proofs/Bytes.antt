-- The bytes as a type of their own are a field; and every number stands for a byte.
use Rattle.std.proofs.Common.{◌≡◌, ℕ, zero, suc, ◌%◌, ◌<◌, ◌≢◌, sym, refl, ap, ◌∙◌, mod-lt, mod-eq_of_lt, zero-lt-suc, lit<}
use mathlib.Core.HLevel.{Σ_prop_path}
use native.Mathlib.Bridge.{le_prop}
use native.Mathlib.Decide.{ℕ_discrete}
use lib.Bits.{bit_xor, xor_mod, xor_lt, xor_assoc, xor_comm, xor_self}
use Rattle.moments.specs.Field.{Laws}
use Rattle.galois.specs.Field.{gf_mul}
use Rattle.galois.proofs.Laws.{mul_lt, mul_one, mul_xor_right, mul_comm, mul_assoc, gf_inverse, gf_inverse_lt, mul_inverse, mul_mod}

-- ---- the type
abbrev pub Byte : Type 0
Byte = (n : ℕ) × (n < 256)

-- bytes are equal where their numbers are
pub byte_eq : (a b : Byte) → a.0 ≡ b.0 → a ≡ b
byte_eq a b e = Σ_prop_path (λ n. le_prop) e

-- the low byte of a number
unfoldable pub to_byte : ℕ → Byte
to_byte n = (n % 256, mod-lt n (lit< tt))

-- the sum
unfoldable pub add : Byte → Byte → Byte
add a b = (bit_xor a.0 b.0, xor_lt 8 a.0 b.0 a.1 b.1)

-- the product
unfoldable pub mul : Byte → Byte → Byte
mul a b = (gf_mul a.0 b.0, mul_lt a.0 b.0 a.1)

-- zero
abbrev pub nil : Byte
nil = to_byte 0

-- one
abbrev pub one : Byte
one = to_byte 1

-- the inverse
unfoldable pub inv : Byte → Byte
inv a = (gf_inverse a.0, gf_inverse_lt a.0)

-- a number that is not 0 is above it
positive : (a : ℕ) → a ≢ 0 → 0 < a
positive zero h = absurd (h refl)
positive (suc a) h = zero-lt-suc a

-- whether a byte is 0
dec_nil : (a : Byte) → Dec (a ≡ nil)
unfolding to_byte
dec_nil a = elim (ℕ_discrete a.0 0) [ yes e ↦ yes (byte_eq a nil e) | no n ↦ no (λ q. n (ap (λ (b : Byte). b.0) q)) ]

-- the laws of a field
pub laws : Laws Byte add mul nil one
unfolding add mul to_byte inv
laws =
    record {
      add_assoc = λ a b c. byte_eq (add (add a b) c) (add a (add b c)) (xor_assoc a.0 b.0 c.0);
      add_comm = λ a b. byte_eq (add a b) (add b a) (xor_comm a.0 b.0);
      nil_add = λ a. byte_eq (add nil a) a refl;
      add_self = λ a. byte_eq (add a a) nil (xor_self a.0);
      mul_assoc = λ a b c. byte_eq (mul (mul a b) c) (mul a (mul b c)) (mul_assoc a.0 b.0 c.0 a.1 b.1 c.1);
      mul_comm = λ a b. byte_eq (mul a b) (mul b a) (mul_comm a.0 b.0 a.1 b.1);
      one_mul = λ a. byte_eq (mul one a) a (mul_comm 1 a.0 (lit< tt) a.1 ∙ mul_one a.0 a.1);
      mul_add = λ a b c. byte_eq (mul a (add b c)) (add (mul a b) (mul a c)) (mul_xor_right a.0 b.0 c.0);
      inv = inv;
      mul_inv = λ a h. byte_eq (mul a (inv a)) one (mul_inverse a.0 (positive a.0 (λ e. h (byte_eq a nil e))) a.1);
      dec = dec_nil;
    }

-- ---- numbers as bytes
-- a byte stands for itself
pub to_byte_self : (a : Byte) → to_byte a.0 ≡ a
unfolding to_byte
to_byte_self a = byte_eq (to_byte a.0) a (mod-eq_of_lt a.1)

-- numbers below 256 stand for different bytes
pub to_byte_eq : (m n : ℕ) → m < 256 → n < 256 → to_byte m ≡ to_byte n → m ≡ n
unfolding to_byte
to_byte_eq m n hm hn e = sym (mod-eq_of_lt hm) ∙ ap (λ (b : Byte). b.0) e ∙ mod-eq_of_lt hn

-- the sum of bytes is the exclusive or
pub to_byte_xor : (m n : ℕ) → to_byte (bit_xor m n) ≡ add (to_byte m) (to_byte n)
unfolding to_byte add
to_byte_xor m n = byte_eq (to_byte (bit_xor m n)) (add (to_byte m) (to_byte n)) (xor_mod m n 8)

-- the product of bytes is the product of the field
pub to_byte_mul : (m n : ℕ) → to_byte (gf_mul m n) ≡ mul (to_byte m) (to_byte n)
unfolding to_byte mul
to_byte_mul m n = byte_eq (to_byte (gf_mul m n)) (mul (to_byte m) (to_byte n)) (mul_mod m n)
