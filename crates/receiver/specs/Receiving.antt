-- The receiver and its memories by the levels received since its start.
use Rattle.std.specs.Prelude.{◌≡◌, ℕ, ◌+◌, ◌-◌, ◌*◌, ◌%◌, ◌<◌, min, cond, List, map, ℤ, nat_lt, slice_index_or}
use Rattle.std.specs.List.{range_with_len}
use Rattle.delay.specs.State.{Came, PlainCame}
use Rattle.trellis.specs.declared.reading.Marked.{Marked}
use Rattle.trellis.specs.Reader.{ReaderAfter, blank, marked_byte}
use Rattle.stream.specs.Sent.{row_place}
use Rattle.receiver.specs.declared.receiver.Receiver.{Receiver}

-- a receiver and the memories that are lent to it
pub record Receiving : Type 0 where
  pub receiver : Receiver
  pub delay : List Marked
  pub extra : List Marked
  pub quad : List Marked
  pub last : List ℤ
  pub packets : List ℕ
  pub sync : List ℕ

-- the element that leaves the deinterleaver as number i: interleaved byte i delayed by 208 × (51 − i mod 52), and a blank one where there is none
unfoldable pub deinterleaved_element : (ℕ → ℤ) → ℕ → Marked
deinterleaved_element levels i = cond (nat_lt i (208 * (51 - i % 52))) blank (marked_byte levels (i - 208 * (51 - i % 52)))

-- the element that leaves the whole delay as number i: row byte i − 10,764 as it was read, and a blank one before the first
unfoldable pub row_element : (ℕ → ℤ) → ℕ → Marked
row_element levels i = cond (nat_lt i 10764) blank (marked_byte levels (row_place (i - 10764)))

-- the receiver and its memories have come from n takes, in which the data symbols were these levels
pub record Comes (levels : ℕ → ℤ) (n : ℕ) (w : Receiving) : Type 0 where
  pub quad_is : w.receiver.quad ≡ n % 78
  pub takes_is : w.receiver.takes ≡ min n 14
  pub reader : ReaderAfter levels (4 * n) w.receiver.reader.memories w.receiver.reader.undoubted
  pub delay : Came blank (map (marked_byte levels) (range_with_len 0 (828 * n))) w.receiver.delay w.delay
  pub extra : PlainCame blank (map (deinterleaved_element levels) (range_with_len 0 (828 * n))) w.receiver.extra w.extra
  pub rows : 0 < n → (u : ℕ) → u < 828 → slice_index_or w.quad u blank ≡ row_element levels (828 * (n - 1) + u)
