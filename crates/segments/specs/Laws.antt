-- A field sync that is received as it was sent tells what it was made of.
use Rattle.std.specs.Prelude.{◌≡◌, ℕ, ◌%◌, ◌<◌, Bool, List, length, ℤ, slice_index_or, All}
use Rattle.segments.specs.Segment.{field_sync}
use Rattle.segments.specs.Report.{report_of, received_sync}

-- sync data as it is accepted: 15 bytes of which the last four bits are zero
pub record SyncData (sync : List ℕ) : Type 0 where
  pub fifteen : length sync ≡ 15
  pub bytes : All (λ b. b < 256) sync
  pub tail : slice_index_or sync 14 0 % 16 ≡ 0

-- the second field is told from the first, no sign is wrong, and the sync data comes back
pub record ReadBack : Type 0 where
  pub report : (sync : List ℕ) (second : Bool) (twelve : List ℤ) → report_of (field_sync sync second twelve) ≡ record { inverted = second; wrong = 0 }
  pub sync_data : (sync : List ℕ) (second : Bool) (twelve : List ℤ) → SyncData sync → received_sync (field_sync sync second twelve) ≡ sync
