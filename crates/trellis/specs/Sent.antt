-- The levels that the twelve encoders send over the whole stream of interleaved bytes.
use Rattle.std.specs.Prelude.{ℕ, zero, suc, ◌-◌, ◌*◌, ◌/◌, ◌%◌, ◌^◌, Bool, true, false, not, ℤ, ◌==◌}
use Rattle.level.specs.declared.Bits.{Bits}
use Rattle.level.specs.Level.{level_of}
use Rattle.trellis.specs.declared.encoding.Encoder.{Encoder}
use Rattle.trellis.specs.Places.{byte_of, encoder_of}

-- one of two bits, and not both
abbrev pub xor : Bool → Bool → Bool
xor true b = not b
xor false b = b

-- bit i of a number
abbrev pub bit_of : ℕ → ℕ → Bool
bit_of v i = v / 2 ^ i % 2 == 1

-- an encoder that has sent nothing
abbrev pub new_encoder : Encoder
new_encoder = record { y = false; a = false; b = false }

-- the bits Z2, Z1 and Z0 that an encoder sends for X2 and X1
abbrev pub sent_bits : Encoder → Bool → Bool → Bits
sent_bits e x2 x1 = record { z2 = xor x2 e.y; z1 = x1; z0 = e.a }

-- the encoder after that
abbrev pub stepped : Encoder → Bool → Bool → Encoder
stepped e x2 x1 = record { y = xor x2 e.y; a = xor x1 e.b; b = e.a }

-- X2 and X1 of encoder e in group q: the two bits of its byte, the highest in the first of four groups
unfoldable pub x2_of : (ℕ → ℕ) → ℕ → ℕ → Bool
x2_of bytes e q = bit_of (bytes (byte_of e q)) (7 - 2 * (q % 4))

unfoldable pub x1_of : (ℕ → ℕ) → ℕ → ℕ → Bool
x1_of bytes e q = bit_of (bytes (byte_of e q)) (6 - 2 * (q % 4))

-- encoder e before group q
unfoldable pub encoder_before : (ℕ → ℕ) → ℕ → ℕ → Encoder
encoder_before bytes e zero = new_encoder
encoder_before bytes e (suc q) = stepped (encoder_before bytes e q) (x2_of bytes e q) (x1_of bytes e q)

-- the level that encoder e sends in group q
unfoldable pub group_level : (ℕ → ℕ) → ℕ → ℕ → ℤ
group_level bytes e q = level_of (sent_bits (encoder_before bytes e q) (x2_of bytes e q) (x1_of bytes e q))

-- the level of data symbol k
abbrev pub data_level : (ℕ → ℕ) → ℕ → ℤ
data_level bytes k = group_level bytes (encoder_of k) (k / 12)
