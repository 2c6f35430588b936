-- What is sent, in closed forms over the packets taken since the start. Packets, rows, their bytes, data symbols, segments and fields are numbered from 0.
use Rattle.std.specs.Prelude.{ℕ, ◌+◌, ◌-◌, ◌*◌, ◌/◌, ◌%◌, cond, List, [], map, drop, replicate, ℤ, pos, ◌==◌, nat_lt, slice_index}
use Rattle.std.specs.List.{range_with_len}
use Rattle.randomizer.specs.Row.{row_of}
use Rattle.trellis.specs.Sent.{data_level}
use Rattle.segments.specs.Segment.{data_segment, field_sync}

-- the row of packet t
abbrev pub row : (ℕ → List ℕ) → ℕ → List ℕ
row packets t = row_of t (packets t)

-- row byte i: byte i mod 207 of row i div 207
unfoldable pub row_byte : (ℕ → List ℕ) → ℕ → ℕ
row_byte packets i = slice_index (row packets (i / 207)) (i % 207)

-- the interleaved place of row byte i
abbrev pub row_place : ℕ → ℕ
row_place i = i + 208 * (i % 52)

-- interleaved byte u: the row byte whose place it is, and zero where there is none
unfoldable pub interleaved_byte : (ℕ → List ℕ) → ℕ → ℕ
interleaved_byte packets u = cond (nat_lt u (208 * (u % 52))) 0 (row_byte packets (u - 208 * (u % 52)))

-- data segment s over the interleaved bytes
unfoldable pub sent_data : (ℕ → ℕ) → ℕ → List ℤ
sent_data bytes s = data_segment (map (λ p. data_level bytes (828 * s + p)) (range_with_len 0 828))

-- the twelve symbols before field f: the last of the data segment before it, and zeros where there is none
abbrev pub twelve_before : (ℕ → ℕ) → ℕ → List ℤ
twelve_before bytes f = drop 820 (cond (f == 0) (replicate 832 (pos 0)) (sent_data bytes (312 * f - 1)))

-- the field sync before field f, whose sync data is `syncs f`; every other field is a frame's second
unfoldable pub sent_sync : (ℕ → List ℕ) → (ℕ → List ℕ) → ℕ → List ℤ
sent_sync packets syncs f = field_sync (syncs f) (f % 2 == 1) (twelve_before (interleaved_byte packets) f)

-- segment n: of each 313 the first is a field sync and the others are data segments
unfoldable pub sent_segment : (ℕ → List ℕ) → (ℕ → List ℕ) → ℕ → List ℤ
sent_segment packets syncs n = cond (n % 313 == 0) (sent_sync packets syncs (n / 313)) (sent_data (interleaved_byte packets) (312 * (n / 313) + n % 313 - 1))

-- the number that data segment s has among all segments
abbrev pub data_number : ℕ → ℕ
data_number s = s + s / 312 + 1

-- how many segments the first q quads have, field syncs included
abbrev pub segments_before : ℕ → ℕ
segments_before q = 4 * q + (q + 77) / 78

-- how many segments quad q has: four, and a field sync before them where it begins a field
abbrev pub quad_segments : ℕ → ℕ
quad_segments q = cond (q % 78 == 0) 5 4

-- the segments that packet t puts: a quad's fourth packet puts the quad's
unfoldable pub put_for : (ℕ → List ℕ) → (ℕ → List ℕ) → ℕ → List (List ℤ)
put_for packets syncs t = cond (t % 4 == 3) (map (sent_segment packets syncs) (range_with_len (segments_before (t / 4)) (quad_segments (t / 4)))) []
