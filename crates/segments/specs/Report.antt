-- What the receiver tells from the 832 levels of a field sync.
use Rattle.std.specs.Prelude.{ℕ, zero, suc, ◌+◌, ◌*◌, Bool, false, cond, List, map, length, ℤ, pos, Ok, Err, Result, ◌==◌, int_lt, nat_lt, slice_index, slice_index_or}
use Rattle.std.specs.List.{range_with_len}
use Rattle.refusal.specs.declared.Refusal.{Refusal}
use Rattle.refusal.specs.declared.Refusal.TheVariants.{WrongLength}
use Rattle.level.specs.Level.{bit}
use Rattle.segments.specs.declared.FieldReport.{FieldReport}
use Rattle.segments.specs.Pn.{pn511, pn63}
use Rattle.segments.specs.Segment.{differ}

-- the bit that stands at a position: one where the level is above zero
abbrev pub sign_at : List ℤ → ℕ → Bool
sign_at levels p = int_lt (pos 0) (slice_index_or levels p (pos 0))

-- bit k of a sequence given as digits: one where the digit is 1
abbrev pub digit_bit : List ℕ → ℕ → Bool
digit_bit digits k = slice_index digits k == 49

-- how many numbers below n pass a test
unfoldable pub count : (ℕ → Bool) → ℕ → ℕ
count test zero = 0
count test (suc n) = count test n + bit (test n)

-- how many of the n signs from a position on differ from the first n bits of a sequence
abbrev pub differing : (ℕ → Bool) → List ℤ → ℕ → ℕ → ℕ
differing bits levels from n = count (λ k. differ (sign_at levels (from + k)) (bits k)) n

-- which field was received, and how many signs of PN511 were wrong
abbrev pub report_of : List ℤ → FieldReport
report_of levels = record { inverted = nat_lt 31 (differing pn63 levels 578 63); wrong = differing pn511 levels 4 511 }

-- bit k of the sync data received: a sign, and zero for each of the last four
abbrev pub received_bit : List ℤ → ℕ → Bool
received_bit levels k = cond (nat_lt k 116) (sign_at levels (704 + k)) false

-- the first n bits as a number, the first one on top
unfoldable pub number : (ℕ → Bool) → ℕ → ℕ
number bits zero = 0
number bits (suc n) = 2 * number bits n + bit (bits n)

-- byte n of the sync data received
abbrev pub received_byte : List ℤ → ℕ → ℕ
received_byte levels n = number (λ k. received_bit levels (8 * n + k)) 8

-- the 15 bytes of sync data received
unfoldable pub received_sync : List ℤ → List ℕ
received_sync levels = map (received_byte levels) (range_with_len 0 15)

-- a report is refused for the length of the segment or that of the memory for the sync data
abbrev pub report_answer : List ℤ → ℕ → Result FieldReport Refusal
report_answer levels n = cond (length levels == 832) (cond (n == 15) (Ok (report_of levels)) (Err WrongLength)) (Err WrongLength)
