-- What is read of the levels received since the start, by the number of each data symbol.
use Rattle.std.specs.Prelude.{ℕ, zero, suc, ◌+◌, ◌*◌, ◌/◌, Bool, false, ◌||◌, ℤ}
use Rattle.level.specs.declared.Bits.{Bits}
use Rattle.level.specs.Level.{bit, bits_of}
use Rattle.trellis.specs.Places.{symbol_of, byte_encoder}
use Rattle.trellis.specs.Sent.{xor}

-- the bits Z2, Z1 and Z0 received of encoder e in group q
abbrev pub bits_at : (ℕ → ℤ) → ℕ → ℕ → Bits
bits_at levels e q = bits_of (levels (symbol_of e q))

-- the Z2 that the encoder's symbol before group q was received with: zero before its first
unfoldable pub last_z2 : (ℕ → ℤ) → ℕ → ℕ → Bool
last_z2 levels e zero = false
last_z2 levels e (suc q) = (bits_at levels e q).z2

-- the bits X2 and X1 read of encoder e in group q, as a number
unfoldable pub pair_at : (ℕ → ℤ) → ℕ → ℕ → ℕ
pair_at levels e q = 2 * bit (xor (bits_at levels e q).z2 (last_z2 levels e q)) + bit (bits_at levels e q).z1

-- whether the symbol of encoder e in group q is doubted: its Z0 is not that of two groups before, exclusive or the Z1 of one group before
unfoldable pub doubted : (ℕ → ℤ) → ℕ → ℕ → Bool
doubted levels e zero = false
doubted levels e (suc zero) = false
doubted levels e (suc (suc q)) = xor (bits_at levels e (suc (suc q))).z0 (xor (bits_at levels e q).z0 (bits_at levels e (suc q)).z1)

-- the number that the first c pairs of interleaved byte u make, the highest first
unfoldable pub pairs_of : (ℕ → ℤ) → ℕ → ℕ → ℕ
pairs_of levels u zero = 0
pairs_of levels u (suc c) = 4 * pairs_of levels u c + pair_at levels (byte_encoder u) (4 * (u / 12) + c)

-- whether one of its first c symbols is doubted
unfoldable pub doubts_of : (ℕ → ℤ) → ℕ → ℕ → Bool
doubts_of levels u zero = false
doubts_of levels u (suc c) = doubts_of levels u c || doubted levels (byte_encoder u) (4 * (u / 12) + c)

-- interleaved byte u as read, and whether it is marked: four symbols carry it
abbrev pub read_byte : (ℕ → ℤ) → ℕ → ℕ
read_byte levels u = pairs_of levels u 4

abbrev pub read_mark : (ℕ → ℤ) → ℕ → Bool
read_mark levels u = doubts_of levels u 4
