-- What the table means over several packets, in the words of someone who watches the lock.
use Rattle.std.specs.Prelude.{◌≡◌, ℕ, ◌+◌, ◌<◌, true, List, [], ◌∷◌, length, Ok, Err}
use Rattle.refusal.specs.declared.Refusal.{Refusal}
use Rattle.refusal.specs.declared.Refusal.TheVariants.{NoFrame}
use Rattle.frame_lock.specs.declared.frame.Frame.{Frame}
use Rattle.frame_lock.specs.declared.frame.Frame.TheVariants.{Waiting, Locked}
use Rattle.frame_lock.specs.Table.{inside_frame, place_of, misses_of, place_after, next_frame, lock_answer}

-- the state after packets with these first bytes, one after the other
abbrev pub frame_after : Frame → List ℕ → Frame
frame_after frame [] = frame
frame_after frame (first ∷ firsts) = frame_after (next_frame frame first) firsts

pub record LockLaws : Type 0 where
  -- a mark elsewhere than at a frame's first place clears no miss, and neither does any other packet there
  pub stray_clears_no_miss : (frame : Frame) (first : ℕ) → 0 < place_of frame → misses_of (next_frame frame first) ≡ misses_of frame
  -- so the misses stay through the rest of a frame, whatever packets it holds
  pub misses_stay_within_a_frame : (place misses : ℕ) (firsts : List ℕ) → 0 < place → place + length firsts < 625 → misses_of (frame_after (Locked place misses) firsts) ≡ misses
  -- a third frame in a row without its mark is refused, and the lock waits
  pub third_miss_unlocks : (lock_answer (Locked 0 2) 0x47 ≡ Err NoFrame) × (next_frame (Locked 0 2) 0x47 ≡ Waiting)
  -- a packet is taken at the place of the lock, and the next place follows
  pub taken_in_turn : (frame : Frame) (first place : ℕ) → inside_frame frame ≡ true → lock_answer frame first ≡ Ok place → (place ≡ place_of frame) × (place_of (next_frame frame first) ≡ place_after place)
  -- a refused packet moves no place
  pub refused_stays : (frame : Frame) (first : ℕ) (e : Refusal) → lock_answer frame first ≡ Err e → place_of (next_frame frame first) ≡ place_of frame
