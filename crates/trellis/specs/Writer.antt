-- What the writer of data symbols answers, and what it leaves.
use Rattle.std.specs.Prelude.{◌≡◌, ℕ, ◌+◌, ◌-◌, ◌*◌, ◌/◌, ◌%◌, ◌<◌, true, cond, ◌≢◌, List, ℤ, pos, Ok, Err, Result, ◌==◌, nat_lt, slice_index, slice_index_or}
use Rattle.level.specs.Level.{level_of, is_level, all_levels}
use Rattle.refusal.specs.declared.Refusal.{Refusal}
use Rattle.refusal.specs.declared.Refusal.TheVariants.{WrongLength}
use Rattle.trellis.specs.declared.encoding.Encoder.{Encoder}
use Rattle.trellis.specs.Sent.{bit_of, new_encoder, sent_bits, stepped, encoder_before, group_level, data_level}

-- refused where a memory has another length than 828
abbrev pub write_answer : ℕ → ℕ → Result (Unit {0}) Refusal
write_answer quad_length out_length = cond (quad_length == 828) (cond (out_length == 828) (Ok tt) (Err WrongLength)) (Err WrongLength)

-- the encoders after n data segments of a stream
abbrev pub EncodersAfter : (ℕ → ℕ) → ℕ → List Encoder → Type 0
EncodersAfter bytes n encoders = (e : ℕ) → e < 12 → slice_index_or encoders e new_encoder ≡ encoder_before bytes e (69 * n)

-- a memory with the interleaved bytes of a quad
abbrev pub QuadOf : (ℕ → ℕ) → ℕ → List ℕ → Type 0
QuadOf bytes number quad = (u : ℕ) → u < 828 → slice_index quad u ≡ bytes (828 * number + u)

-- the symbols of data segment n, and the encoders after it
pub record Written (bytes : ℕ → ℕ) (n : ℕ) (out : List ℤ) (encoders : List Encoder) : Type 0 where
  pub symbols : (p : ℕ) → p < 828 → slice_index_or out p (pos 0) ≡ data_level bytes (828 * n + p)
  pub encoders_after : EncodersAfter bytes (n + 1) encoders

-- what writing leaves: levels only, and for every stream those of its next data segment
pub record Writes (quad : List ℕ) (segment : ℕ) (before : List Encoder) (out : List ℤ) (after : List Encoder) : Type 0 where
  pub levels_only : all_levels out ≡ true
  pub by_history : (bytes : ℕ → ℕ) (n : ℕ) → n % 12 ≡ segment % 12 → QuadOf bytes (n / 4) quad → EncodersAfter bytes n before → Written bytes n out after

-- the encoder whose symbols stand at a place of each group of twelve in data segment n
abbrev pub lane_encoder : ℕ → ℕ → ℕ
lane_encoder n place = (place + 4 * n) % 12

-- the quad's byte of a lane in a group of the quad: four places on where the byte began before the segment
abbrev pub lane_byte : ℕ → ℕ → ℕ → ℕ
lane_byte first place group = 12 * (group / 4) + cond (nat_lt (4 * (group / 4)) first) ((place + 4) % 12) place

-- one encoder's first symbols of data segment n, as many as `count`, and the encoder after them
pub record LaneWritten (bytes : ℕ → ℕ) (n place count : ℕ) (out : List ℤ) (encoder : Encoder) : Type 0 where
  pub symbols : (g : ℕ) → g < count → slice_index_or out (12 * g + place) (pos 0) ≡ group_level bytes (lane_encoder n place) (69 * n + g)
  pub encoder_after : encoder ≡ encoder_before bytes (lane_encoder n place) (69 * n + count)

-- what `count` symbols of a lane leave: levels at their places, for every stream those of its next data segment, and the other lanes as before
pub record WritesLane (quad : List ℕ) (first place count : ℕ) (before : Encoder) (old out : List ℤ) (after : Encoder) : Type 0 where
  pub levels_only : (g : ℕ) → g < count → is_level (slice_index_or out (12 * g + place) (pos 0)) ≡ true
  pub others_stay : (p : ℕ) → p % 12 ≢ place → slice_index_or out p (pos 0) ≡ slice_index_or old p (pos 0)
  pub by_history : (bytes : ℕ → ℕ) (n : ℕ) → first ≡ 69 * (n % 4) → QuadOf bytes (n / 4) quad → before ≡ encoder_before bytes (lane_encoder n place) (69 * n) → LaneWritten bytes n place count out after

-- a pair of a byte's bits, 0 the highest, is sent as a level
pub record PairSent (byte pair : ℕ) (level : ℤ) (before after : Encoder) : Type 0 where
  pub level_is : level ≡ level_of (sent_bits before (bit_of byte (7 - 2 * pair)) (bit_of byte (6 - 2 * pair)))
  pub encoder_after : after ≡ stepped before (bit_of byte (7 - 2 * pair)) (bit_of byte (6 - 2 * pair))

-- an encoder goes on from symbol g of a lane to symbol r, whatever it wrote before
abbrev pub WritesOn : List ℕ → ℕ → ℕ → ℕ → ℕ → Encoder → List ℤ → Encoder → List ℤ → Type 0
WritesOn quad first place g r before old after out = (start : Encoder) (given : List ℤ) → WritesLane quad first place g start given old before → WritesLane quad first place r start given out after

-- one of the twelve encoders writes its lane, and the others stay
pub record WritesOne (quad : List ℕ) (first place : ℕ) (e : ℕ) (before : List Encoder) (old out : List ℤ) (after : List Encoder) : Type 0 where
  pub lane : WritesLane quad first place 69 (slice_index_or before e new_encoder) old out (slice_index_or after e new_encoder)
  pub others : (j : ℕ) → j ≢ e → slice_index_or after j new_encoder ≡ slice_index_or before j new_encoder
