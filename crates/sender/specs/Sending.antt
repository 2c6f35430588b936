-- The sender and its memories by the packets taken since its start.
use Rattle.std.specs.Prelude.{◌≡◌, ℕ, ◌+◌, ◌-◌, ◌*◌, ◌/◌, ◌%◌, ◌<◌, min, cond, List, map, replicate, ℤ, pos, nat_lt, slice_index}
use Rattle.std.specs.List.{range_with_len}
use Rattle.delay.specs.State.{Came}
use Rattle.trellis.specs.Writer.{EncodersAfter}
use Rattle.frame_lock.specs.Table.{place_of}
use Rattle.stream.specs.Sent.{row_byte, interleaved_byte, sent_data}
use Rattle.sender.specs.declared.sender.Sender.{Sender}

-- a sender and the memories that are lent to it
pub record Sending : Type 0 where
  pub sender : Sender
  pub delay : List ℕ
  pub quad : List ℕ
  pub last : List ℤ

-- byte u of the quad memory after n packets: this quad's interleaved bytes so far, then those of the quad before, zero where there is none
abbrev pub quad_byte : (ℕ → ℕ) → ℕ → ℕ → ℕ
quad_byte bytes n u = cond (nat_lt u (207 * (n % 4))) (bytes (828 * (n / 4) + u)) (cond (nat_lt n 4) 0 (bytes (828 * (n / 4 - 1) + u)))

-- the last segment put by n packets, and zeros where there is none
abbrev pub last_segment : (ℕ → ℕ) → ℕ → List ℤ
last_segment bytes n = cond (nat_lt n 4) (replicate 832 (pos 0)) (sent_data bytes (4 * (n / 4) - 1))

-- the sender and its memories have come from taking the first n of the packets
pub record Comes (packets : ℕ → List ℕ) (n : ℕ) (w : Sending) : Type 0 where
  pub place : place_of w.sender.lock.frame ≡ n % 624
  pub taken : w.sender.taken ≡ min n 18446744073709551615
  pub delay : Came 0 (map (row_byte packets) (range_with_len 0 (207 * n))) w.sender.delay w.delay
  pub quad : (u : ℕ) → u < 828 → slice_index w.quad u ≡ quad_byte (interleaved_byte packets) n u
  pub encoders : EncodersAfter (interleaved_byte packets) (4 * (n / 4)) w.sender.trellis.encoders
  pub last : w.last ≡ last_segment (interleaved_byte packets) n
