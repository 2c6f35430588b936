-- Slots of a memory that are taken in turn.
use Rattle.std.specs.Prelude.{◌≡◌, ℕ, zero, suc, ◌+◌, ◌-◌, ◌*◌, ◌^◌, ◌<◌, Bool, false, cond, List, [], ◌∷◌, ◌++◌, length, Some, None, Option, ◌==◌, ◌≢◌, nat_le, nat_lt, All}
use Rattle.std.specs.List.{between}
use Rattle.line.specs.declared.LineFault.{LineFault}
use Rattle.line.specs.declared.LineFault.TheVariants.{UsedUp, NoRoom, NothingWaits}

-- the slots that hold waiting segments, oldest first, and the number of the next segment
pub record Slots : Type 0 where
  pub room : ℕ
  pub taken : List ℕ
  pub number : ℕ

-- a slot counted on past the last one
abbrev pub following : ℕ → ℕ → ℕ
following room k = cond (nat_lt k room) k (k - room)

-- n slots from the slot h on
abbrev pub from_slot : ℕ → ℕ → ℕ → List ℕ
from_slot room h zero = []
from_slot room h (suc n) = from_slot room h n ++ following room (h + n) ∷ []

-- block k of a memory in blocks of w elements
abbrev pub block : {X : Type 0} → ℕ → List X → ℕ → List X
block w memory k = between (w * k) (w * k + w) memory

-- whether there may be so many slots, with this first number
abbrev pub fits_ring : ℕ → ℕ → Bool
fits_ring room first = cond (nat_le 1 room) (cond (nat_le room 64) (nat_le first 1099511627775) false) false

-- none taken
abbrev pub new_slots : ℕ → ℕ → Slots
new_slots room first = record { room = room; taken = []; number = first }

-- why no slot can be taken
abbrev pub put_fault : Slots → Option LineFault
put_fault s = cond (s.number == 2 ^ 40) (Some UsedUp) (cond (length s.taken == s.room) (Some NoRoom) None)

-- why no slot can be given back
abbrev pub take_fault : Slots → Option LineFault
take_fault s = cond (length s.taken == 0) (Some NothingWaits) None

-- the free slot k was taken
pub record SlotPut (s : Slots) (k : ℕ) (t : Slots) : Type 0 where
  pub accepted : put_fault s ≡ None
  pub inside : k < s.room
  pub free : All (λ j. j ≢ k) s.taken
  pub after : t ≡ record { room = s.room; taken = s.taken ++ k ∷ []; number = s.number + 1 }

-- the oldest slot, k, was given back
pub record SlotTaken (s : Slots) (k : ℕ) (t : Slots) : Type 0 where
  pub accepted : take_fault s ≡ None
  pub inside : k < s.room
  pub oldest : s.taken ≡ k ∷ t.taken
  pub room_stays : t.room ≡ s.room
  pub number_stays : t.number ≡ s.number
