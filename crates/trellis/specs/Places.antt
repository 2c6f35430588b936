-- Which encoder, which interleaved byte and which of its bits a data symbol has. All are numbered from 0 since the start.
use Rattle.std.specs.Prelude.{◌≡◌, ℕ, ◌+◌, ◌*◌, ◌/◌, ◌%◌, ◌<◌}

-- the encoder of data symbol k: in each data segment the twelve take turns, four places on from segment to segment
abbrev pub encoder_of : ℕ → ℕ
encoder_of k = (k % 828 + 4 * (k / 828)) % 12

-- the data symbol of encoder e in group q of twelve symbols
abbrev pub symbol_of : ℕ → ℕ → ℕ
symbol_of e q = 12 * q + (e + 8 * (q / 69)) % 12

-- the interleaved byte of which encoder e carries two bits in group q: four successive groups carry one byte
abbrev pub byte_of : ℕ → ℕ → ℕ
byte_of e q = 12 * (q / 4) + (e + 8 * (4 * (q / 4) / 69)) % 12

-- the interleaved byte of data symbol k
abbrev pub symbol_byte : ℕ → ℕ
symbol_byte k = byte_of (encoder_of k) (k / 12)

-- the encoder that carries interleaved byte u
abbrev pub byte_encoder : ℕ → ℕ
byte_encoder u = (u + 4 * (4 * (u / 12) / 69)) % 12

-- the numberings are inverse to each other
pub record PlaceLaw : Type 0 where
  pub symbol_comes_back : (k : ℕ) → symbol_of (encoder_of k) (k / 12) ≡ k
  pub encoder_comes_back : (e q : ℕ) → e < 12 → encoder_of (symbol_of e q) ≡ e
  pub group_comes_back : (e q : ℕ) → symbol_of e q / 12 ≡ q
  pub byte_comes_back : (u g : ℕ) → g < 4 → byte_of (byte_encoder u) (4 * (u / 12) + g) ≡ u
  pub encoder_carries : (e q : ℕ) → e < 12 → byte_encoder (byte_of e q) ≡ e
  pub groups_of_a_byte : (e q : ℕ) → byte_of e q / 12 ≡ q / 4
