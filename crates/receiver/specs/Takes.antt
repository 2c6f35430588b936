-- What a take answers, and what it leaves.
use Rattle.std.specs.Prelude.{◌≡◌, ℕ, ◌+◌, ◌-◌, ◌*◌, ◌<◌, ◌≤◌, Bool, false, cond, List, [], ◌∷◌, length, drop, replicate, ℤ, pos, Some, None, Ok, Err, Option, Result, MatchResult, ◌==◌, bit_or, nat_lt, slice_index_or}
use Rattle.std.specs.List.{between}
use Rattle.refusal.specs.declared.Refusal.{Refusal}
use Rattle.refusal.specs.declared.Refusal.TheVariants.{WrongLength, TooFewWaiting}
use Rattle.mender.specs.declared.Mending.{Mending}
use Rattle.mender.specs.declared.Mending.TheVariants.{Clean, Mended as MendedBy, Spoiled}
use Rattle.mender.specs.Mended.{Mended}
use Rattle.randomizer.specs.Row.{bytes_of}
use Rattle.segments.specs.declared.FieldReport.{FieldReport}
use Rattle.segments.specs.Report.{report_of, received_sync}
use Rattle.trellis.specs.Reader.{SegmentOf, blank}
use Rattle.line.specs.State.{State, with_waiting}
use Rattle.stream.specs.Sent.{quad_segments}
use Rattle.stream.specs.Came.{received_row, marked_in_row}
use Rattle.receiver.specs.declared.report.PacketReport.{PacketReport}
use Rattle.receiver.specs.declared.receiver.Receiver.{Receiver}
use Rattle.receiver.specs.Receiving.{Receiving, Comes}

-- whether the six memories have their lengths
abbrev pub memories_fit : Receiving → Bool
memories_fit w =
    cond (length w.delay == 5304) (cond (length w.extra == 156) (cond (length w.quad == 828)
    (cond (length w.last == 832) (cond (length w.packets == 752) (length w.sync == 15) false) false) false) false) false

-- how many segments the next take needs: a quad's four, and the field sync where it begins a field
abbrev pub needed : Receiver → ℕ
needed r = quad_segments r.quad

-- the report of the field sync, where the quad begins a field
abbrev pub field_report : Receiver → List (List ℤ) → Option FieldReport
field_report r waiting = cond (r.quad == 0) (Some (report_of (slice_index_or waiting 0 []))) None

-- the answer to a take: refused where a memory has another length, and then where too few segments wait
abbrev pub take_answer : Receiving → State → Result (Option FieldReport) Refusal
take_answer w l =
    cond (memories_fit w)
    (cond (nat_lt (length l.waiting) (needed w.receiver)) (Err (TooFewWaiting (needed w.receiver) (length l.waiting))) (Ok (field_report w.receiver l.waiting)))
    (Err WrongLength)

-- the first of the bytes with its top bit set
abbrev pub top_bit_set : List ℕ → List ℕ
top_bit_set [] = []
top_bit_set (b ∷ bytes) = bit_or b 128 ∷ bytes

-- the bytes handed out after the first, where the row at a place has this result: of a spoiled row the top bit of the first is set
abbrev pub bytes_out : Mending → ℕ → List ℕ → List ℕ
bytes_out Clean t row = bytes_of t row
bytes_out (MendedBy wrong) t row = bytes_of t row
bytes_out Spoiled t row = top_bit_set (bytes_of t row)

-- packet t as it is handed out of the levels received: the near code row, or the received bytes where there is none
pub record PacketOut (levels : ℕ → ℤ) (t : ℕ) (packet : List ℕ) (report : PacketReport) : Type 0 where
  pub mended : List ℕ
  pub by_mender : Mended 20 (received_row levels t) mended report.result
  pub packet_is : packet ≡ 0x47 ∷ bytes_out report.result t mended
  pub marked_is : report.marked ≡ marked_in_row levels t

-- a report that tells nothing
abbrev pub no_report : PacketReport
no_report = record { result = Clean; marked = 0 }

-- the four packets of a quad are handed out
abbrev pub QuadOut : (ℕ → ℤ) → ℕ → List ℕ → List PacketReport → Type 0
QuadOut levels q packets reports = (j : ℕ) → j < 4 → PacketOut levels (4 * q + j) (between (188 * j) (188 * j + 188) packets) (slice_index_or reports j no_report)

-- the four segments have the data symbols of quad q
abbrev pub QuadCame : (ℕ → ℤ) → ℕ → List (List ℤ) → Type 0
QuadCame levels q segments = (j : ℕ) → j < 4 → SegmentOf levels (4 * q + j) (drop 4 (slice_index_or segments j []))

-- the data segments that a take moves off the line
abbrev pub data_taken : Receiver → List (List ℤ) → List (List ℤ)
data_taken r waiting = drop (needed r - 4) waiting

-- a take is accepted: the segments leave the line; for all levels received before, the first 13 takes leave the packets and each later one hands out the quad of 13 takes before
pub record Received (w : Receiving) (l : State) (v : Receiving) (l' : State) : Type 0 where
  pub line : l' ≡ with_waiting l (drop (needed w.receiver) l.waiting) l.number
  pub last : v.last ≡ slice_index_or l.waiting (needed w.receiver - 1) []
  pub sync : v.sync ≡ cond (w.receiver.quad == 0) (received_sync (slice_index_or l.waiting 0 [])) w.sync
  pub early : w.receiver.takes < 13 → (v.packets ≡ w.packets) × (v.receiver.reports ≡ w.receiver.reports)
  pub run : (levels : ℕ → ℤ) (n : ℕ) → Comes levels n w → QuadCame levels n (data_taken w.receiver l.waiting)
      → Comes levels (n + 1) v × (13 ≤ n → QuadOut levels (n - 13) v.packets v.receiver.reports)

-- what a take leaves: a refused one leaves all as it was
abbrev pub Taken : Receiving → State → Result (Option FieldReport) Refusal → Receiving → State → Type 0
Taken w l r v l' = MatchResult r (λ _. Received w l v l') (λ _. (v ≡ w) × (l' ≡ l))

-- a receiver that has just been started on cleared memories
pub record Started (w : Receiving) : Type 0 where
  pub cleared : (w.delay ≡ replicate 5304 blank) × (w.extra ≡ replicate 156 blank) × (w.quad ≡ replicate 828 blank)
  pub emptied : (w.last ≡ replicate 832 (pos 0)) × (w.packets ≡ replicate 752 0) × (w.sync ≡ replicate 15 0)
  pub no_reports : w.receiver.reports ≡ replicate 4 no_report
  pub comes : (levels : ℕ → ℤ) → Comes levels 0 w

-- the reports of the last take, once it has handed packets out
abbrev pub reports_told : Receiver → Option (List PacketReport)
reports_told r = cond (nat_lt r.takes 14) None (Some r.reports)
