-- Laws of writing and reading over whole streams.
use Rattle.std.specs.Prelude.{◌≡◌, ℕ, ◌+◌, ◌*◌, ◌/◌, ◌<◌, ◌≤◌, false, ℤ}
use Rattle.trellis.specs.Places.{symbol_of, byte_encoder}
use Rattle.trellis.specs.Sent.{data_level}
use Rattle.trellis.specs.Received.{read_byte, read_mark}

-- data symbol k came as it was sent
abbrev pub AsSent : (ℕ → ℕ) → (ℕ → ℤ) → ℕ → Type 0
AsSent bytes levels k = levels k ≡ data_level bytes k

-- the four symbols of interleaved byte u came as sent, and so did the symbols that its encoder had before them, as many as `before`
abbrev pub CameWith : ℕ → (ℕ → ℕ) → (ℕ → ℤ) → ℕ → Type 0
CameWith before bytes levels u = (q : ℕ) → 4 * (u / 12) ≤ q + before → q < 4 * (u / 12) + 4 → AsSent bytes levels (symbol_of (byte_encoder u) q)

pub record ReadingLaws : Type 0 where
  -- a byte is read as sent where its four symbols and the one before them came as sent, whatever came elsewhere
  pub byte_comes : (bytes : ℕ → ℕ) (levels : ℕ → ℤ) (u : ℕ) → bytes u < 256 → CameWith 1 bytes levels u → read_byte levels u ≡ bytes u
  -- it is not marked where its four symbols and the two before them came as sent
  pub no_mark_comes : (bytes : ℕ → ℕ) (levels : ℕ → ℤ) (u : ℕ) → CameWith 2 bytes levels u → read_mark levels u ≡ false
  -- what is read of all that was sent is what was sent, unmarked
  pub all_comes : (bytes : ℕ → ℕ) (u : ℕ) → bytes u < 256 → (read_byte (data_level bytes) u ≡ bytes u) × (read_mark (data_level bytes) u ≡ false)
