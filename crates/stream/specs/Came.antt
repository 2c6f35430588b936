-- What comes in, in closed forms over the segments taken since the start.
use Rattle.std.specs.Prelude.{ℕ, ◌+◌, ◌*◌, ◌/◌, ◌%◌, List, [], map, ℤ, pos, slice_index_or}
use Rattle.std.specs.List.{range_with_len}
use Rattle.segments.specs.Report.{count}
use Rattle.trellis.specs.Received.{read_byte, read_mark}
use Rattle.stream.specs.Sent.{row_place, data_number}

-- data symbol k among the segments
unfoldable pub came_level : List (List ℤ) → ℕ → ℤ
came_level segments k = slice_index_or (slice_index_or segments (data_number (k / 828)) []) (4 + k % 828) (pos 0)

-- row t as it is read of the data symbols that came
unfoldable pub received_row : (ℕ → ℤ) → ℕ → List ℕ
received_row levels t = map (λ j. read_byte levels (row_place (207 * t + j))) (range_with_len 0 207)

-- how many bytes of row t are marked
unfoldable pub marked_in_row : (ℕ → ℤ) → ℕ → ℕ
marked_in_row levels t = count (λ j. read_mark levels (row_place (207 * t + j))) 207
