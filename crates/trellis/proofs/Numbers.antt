-- Arithmetic of the numberings: lanes of a data segment, places of symbols and bytes.
use Rattle.std.proofs.Common.{◌≡◌, ℕ, ◌+◌, ◌*◌, ◌/◌, ◌%◌, ◌<◌, ◌≢◌, ap, ◌∙◌, arith, rules}
use Rattle.trellis.specs.Places.{encoder_of, symbol_of, byte_of, byte_encoder, PlaceLaw}
use Rattle.trellis.specs.Writer.{lane_encoder, lane_byte}

-- the byte of a lane in the quad is that of its encoder in the stream
pub lane_byte_is : (n first place g : ℕ) → first ≡ 69 * (n % 4) → place < 12 → g < 69 → 828 * (n / 4) + lane_byte first place (first + g) ≡ byte_of (lane_encoder n place) (69 * n + g)
lane_byte_is n first place g f p l = search rules

-- it is one of the quad's 828 bytes
pub lane_byte_below : (first place group : ℕ) → place < 12 → group < 276 → lane_byte first place group < 828
lane_byte_below first place group p l = search rules

-- the bits of a lane in the quad are those of its encoder in the stream
pub lane_group_is : (n first g : ℕ) → first ≡ 69 * (n % 4) → (first + g) % 4 ≡ (69 * n + g) % 4
lane_group_is n first g f = search rules

-- it lies in the row of twelve bytes of its group, and four groups of a row have one byte
pub lane_byte_row : (first place group : ℕ) → place < 12 → lane_byte first place group / 12 ≡ group / 4
lane_byte_row first place group p = search rules

pub byte_kept : (first place i j : ℕ) → i / 4 ≡ j / 4 → lane_byte first place i ≡ lane_byte first place j
byte_kept first place i j z = rw z

-- an encoder has one byte in each row of a quad
pub row_byte : (number u v : ℕ) → byte_encoder (828 * number + u) ≡ byte_encoder (828 * number + v) → u / 12 ≡ v / 12 → u ≡ v
row_byte number u v e r = search rules

-- symbol g of a lane
pub lane_symbol : (n place g : ℕ) → place < 12 → g < 69 → 828 * n + (12 * g + place) ≡ symbol_of (lane_encoder n place) (69 * n + g)
lane_symbol n place g p l = search rules

-- symbol p of data segment n has the encoder of its lane
pub symbol_lane : (n p : ℕ) → p < 828 → encoder_of (828 * n + p) ≡ lane_encoder n (p % 12)
symbol_lane n p l = search rules

pub symbol_group : (n p : ℕ) → (828 * n + p) / 12 ≡ 69 * n + p / 12
symbol_group n p = search rules

-- the encoder of a lane, from the remainder of the segment's number
pub lane_turn : (n segment place : ℕ) → n % 12 ≡ segment % 12 → (place + 4 * (segment % 3)) % 12 ≡ lane_encoder n place
lane_turn n segment place r = search rules

-- the lane of an encoder
pub turned_lane : (n e : ℕ) → e < 12 → lane_encoder n ((e + 8 * n) % 12) ≡ e
turned_lane n e l = search rules

-- two lanes have two encoders
pub other_lane : (n i j : ℕ) → i < 12 → j < 12 → i ≢ j → lane_encoder n i ≢ lane_encoder n j
other_lane n i j l m ne h = ne (search rules)

pub place_law : PlaceLaw
place_law =
    record {
      symbol_comes_back = λ k. search rules;
      encoder_comes_back = λ e q l. search rules;
      group_comes_back = λ e q. search rules;
      byte_comes_back = λ u g l. search rules;
      encoder_carries = λ e q l. search rules;
      groups_of_a_byte = λ e q. search rules;
    }

-- a lane's byte belongs to its encoder
pub lane_byte_encoder : (n first place g : ℕ) → first ≡ 69 * (n % 4) → place < 12 → g < 69 → byte_encoder (828 * (n / 4) + lane_byte first place (first + g)) ≡ lane_encoder n place
lane_byte_encoder n first place g f p l = ap byte_encoder (lane_byte_is n first place g f p l) ∙ place_law.encoder_carries (lane_encoder n place) (69 * n + g) (omega arith)
