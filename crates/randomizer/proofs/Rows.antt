-- What the bytes of a packet come to in its row, and back.
use Rattle.std.proofs.Common.{◌≡◌, ℕ, ◌-◌, ◌≤◌, List, length, take, drop, Ok, Result, sym, ap, ◌∙◌, ap₂, arith, MatchResult}
use borrow.Rule.Slice.PartMut.{put_mid}
use Rattle.std.proofs.lemmas.List.{length-append, length-drop, take_all, take_at}
use Rattle.std.proofs.lemmas.Result.{MatchResult-at_ok}
use Rattle.refusal.specs.declared.Refusal.{Refusal}
use Rattle.rows.specs.Parity.{parity, coded}
use Rattle.reed_solomon.specs.Complete.{complete_answer, front}
use Rattle.randomizer.specs.Packets.{randomized}
use Rattle.randomizer.specs.Row.{row_of, code_packet_answer, PacketReturns}
use Rattle.randomizer.proofs.Packets.{length_randomized, round_trip}

-- the bytes of a packet after its first
length_part : (place : ℕ) (packet : List ℕ) → length packet ≡ 188 → length (randomized place (drop 1 packet)) ≡ 187
length_part place packet h = length_randomized place (drop 1 packet) ∙ simp length-drop (omega arith)

-- a row whose first 187 bytes are written and which is then completed
module _ (place : ℕ) (packet row part done : List ℕ) (r : Result (Unit {0}) Refusal) (lp : length packet ≡ 188) (lr : length row ≡ 207)
    (written : part ≡ randomized place (take 187 (drop 1 packet))) (answer : r ≡ complete_answer 20 (length (put_mid 0 187 row part)))
    (completed : MatchResult r (λ _. done ≡ coded 20 (front 20 (put_mid 0 187 row part))) (λ _. done ≡ put_mid 0 187 row part)) where
  -- what the first 187 bytes are
  part_is : part ≡ randomized place (drop 1 packet)
  part_is = let l : length (drop 1 packet) ≤ 187 = simp length-drop (omega arith) in written ∙ ap (randomized place) (take_all 187 (drop 1 packet) l)

  -- how many they are
  part_length : length part ≡ 187
  part_length = ap length part_is ∙ length_part place packet lp

  -- the row keeps its length
  whole_length : length (put_mid 0 187 row part) ≡ 207
  whole_length = let l = part_length in simp (length-append, length-drop) (omega arith)

  -- so it is completed
  accepted : r ≡ Ok tt
  accepted = answer ∙ ap (complete_answer 20) whole_length

  -- from the bytes that were written
  front_is : front 20 (put_mid 0 187 row part) ≡ part
  front_is = ap (λ (n : ℕ). take (n - 20) (put_mid 0 187 row part)) whole_length ∙ take_at part (drop 187 row) 187 part_length

  -- and it is the packet's row
  coded_done : done ≡ row_of place packet
  coded_done =
      MatchResult-at_ok (λ _. done ≡ coded 20 (front 20 (put_mid 0 187 row part))) (λ _. done ≡ put_mid 0 187 row part) tt accepted completed
      ∙ ap (coded 20) (front_is ∙ part_is)

  -- what is to be shown of the call
  pub row_done : (r ≡ code_packet_answer (length packet) (length row)) × MatchResult r (λ _. done ≡ row_of place packet) (λ _. done ≡ row)
  row_done = (accepted ∙ sym (ap₂ code_packet_answer lp lr), rw accepted coded_done)

-- the row of a packet gives its bytes back
pub packet_returns : PacketReturns
packet_returns place packet h =
    ap (randomized place) (take_at (randomized place (drop 1 packet)) (parity 20 (randomized place (drop 1 packet))) 187 (length_part place packet h)) ∙ round_trip place (drop 1 packet)
