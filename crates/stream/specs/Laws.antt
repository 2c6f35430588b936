-- Laws of the closed forms.
use Rattle.std.specs.Prelude.{◌≡◌, ℕ, zero, suc, ◌+◌, ◌/◌, List, [], ◌++◌, map, ℤ}
use Rattle.std.specs.List.{range_with_len}
use Rattle.stream.specs.Sent.{row_byte, row_place, interleaved_byte, sent_data, sent_segment, data_number, segments_before, quad_segments, put_for}

-- the segments that the first n packets put, one after the other
unfoldable pub put_by : (ℕ → List ℕ) → (ℕ → List ℕ) → ℕ → List (List ℤ)
put_by packets syncs zero = []
put_by packets syncs (suc n) = put_by packets syncs n ++ put_for packets syncs n

pub record StreamLaws : Type 0 where
  -- a row byte stands at its interleaved place
  pub bytes_in_place : (packets : ℕ → List ℕ) (i : ℕ) → interleaved_byte packets (row_place i) ≡ row_byte packets i
  -- the packets put all segments in their order, none twice
  pub segments_in_order : (packets syncs : ℕ → List ℕ) (n : ℕ) → put_by packets syncs n ≡ map (sent_segment packets syncs) (range_with_len 0 (segments_before (n / 4)))
  -- a data segment stands at its number
  pub data_at_number : (packets syncs : ℕ → List ℕ) (s : ℕ) → sent_segment packets syncs (data_number s) ≡ sent_data (interleaved_byte packets) s
  -- a quad's segments follow those before it
  pub quads_follow : (q : ℕ) → segments_before (q + 1) ≡ segments_before q + quad_segments q
