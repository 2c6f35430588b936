-- What damage does to rows.
use Rattle.std.specs.Prelude.{◌≡◌, Bool, false, List, ℕ, ◌+◌, ◌*◌, ◌/◌, ◌<◌, ◌≤◌, ℤ, length}
use Rattle.rows.specs.Code.{Bytes, differing}
use Rattle.trellis.specs.Laws.{AsSent}
use Rattle.stream.specs.Sent.{row, interleaved_byte}
use Rattle.stream.specs.Came.{received_row}
use Rattle.touched.specs.Touched.{touched_in_row, InBursts}

-- of the first n data symbols those that are not damaged came as they were sent
abbrev pub UndamagedCame : (ℕ → Bool) → (ℕ → List ℕ) → (ℕ → ℤ) → ℕ → Type 0
UndamagedCame damaged packets levels n = (k : ℕ) → k < n → damaged k ≡ false → AsSent (interleaved_byte packets) levels k

pub record TouchedLaws : Type 0 where
  -- a row comes in other than sent in no more bytes than are touched; all its symbols have come when 14 more quads are sent than lie before it
  pub untouched_comes_as_sent : (damaged : ℕ → Bool) (packets : ℕ → List ℕ) (levels : ℕ → ℤ) (t : ℕ) → length (packets t) ≡ 188 → Bytes (packets t)
      → UndamagedCame damaged packets levels (3312 * (t / 4 + 14)) → differing (received_row levels t) (row packets t) ≤ touched_in_row damaged t
  -- bursts of 2,005 symbols that are 44,000 apart touch at most ten bytes of any row
  pub bursts_touch_ten : (damaged : ℕ → Bool) (t : ℕ) → InBursts damaged → touched_in_row damaged t ≤ 10
  -- where nothing is damaged, nothing is touched
  pub nothing_touched : (damaged : ℕ → Bool) (t : ℕ) → ((k : ℕ) → damaged k ≡ false) → touched_in_row damaged t ≡ 0
