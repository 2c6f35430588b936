-- The field of 256, made by X^8 + X^4 + X^3 + X^2 + 1 (0x11d): a byte is a polynomial over GF(2), its bit i the coefficient of X^i.
use Rattle.std.specs.Prelude.{ℕ, zero, suc, ◌*◌, ◌/◌, ◌%◌, bit_xor}

-- times X: shift, and take X^8 + X^4 + X^3 + X^2 + 1 off where bit 7 was set
unfoldable pub times_x : ℕ → ℕ
times_x a = bit_xor (a * 2) (a / 128 % 2 * 285)

-- the product with the k low bits of b: a for bit 0, X * a for bit 1, and so on
unfoldable pub mul_bits : ℕ → ℕ → ℕ → ℕ
mul_bits zero a b = 0
mul_bits (suc k) a b = bit_xor (b % 2 * a) (mul_bits k (times_x a) (b / 2))

-- the product of two bytes in the field
unfoldable pub gf_mul : ℕ → ℕ → ℕ
gf_mul a b = mul_bits 8 a b

-- the k-th power of a byte in the field
unfoldable pub gf_power : ℕ → ℕ → ℕ
gf_power a zero = 1
gf_power a (suc k) = gf_mul (gf_power a k) a
