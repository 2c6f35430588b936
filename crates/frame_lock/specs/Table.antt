-- The table of the frame lock: what a packet's first byte does in each state.
use Rattle.std.specs.Prelude.{ℕ, ◌+◌, min, Bool, true, cond, Ok, Err, Result, ◌==◌, nat_lt}
use Rattle.refusal.specs.declared.Refusal.{Refusal}
use Rattle.refusal.specs.declared.Refusal.TheVariants.{NoSyncByte, NoFrame}
use Rattle.frame_lock.specs.declared.frame.Frame.{Frame}
use Rattle.frame_lock.specs.declared.frame.Frame.TheVariants.{Waiting, Locked}

-- a place is one of a frame's 624
abbrev pub inside_frame : Frame → Bool
inside_frame Waiting = true
inside_frame (Locked place misses) = nat_lt place 624

-- the place of the next packet: a frame begins where the lock waits
abbrev pub place_of : Frame → ℕ
place_of Waiting = 0
place_of (Locked place misses) = place

-- how many frames in a row came without their mark
abbrev pub misses_of : Frame → ℕ
misses_of Waiting = 0
misses_of (Locked place misses) = misses

-- the place after a place
abbrev pub place_after : ℕ → ℕ
place_after place = cond (place == 623) 0 (place + 1)

-- the state after a packet that is not marked: at a frame's first place a miss, and the third unlocks
abbrev pub after_plain : Frame → Frame
after_plain Waiting = Waiting
after_plain (Locked place misses) = cond (place == 0) (cond (nat_lt misses 2) (Locked 1 (misses + 1)) Waiting) (Locked (place_after place) misses)

-- the state after a marked packet: at a frame's first place no miss is left, elsewhere they stay
abbrev pub after_mark : Frame → Frame
after_mark Waiting = Locked 1 0
after_mark (Locked place misses) = cond (place == 0) (Locked 1 0) (Locked (place_after place) misses)

-- the state after a packet with this first byte
abbrev pub next_frame : Frame → ℕ → Frame
next_frame frame first = cond (first == 0x47) (after_plain frame) (cond (first == 0xB8) (after_mark frame) frame)

-- the strays after it: a mark elsewhere than at a frame's first place is one more, up to 4,294,967,295
abbrev pub next_strays : Frame → ℕ → ℕ → ℕ
next_strays Waiting first strays = strays
next_strays (Locked place misses) first strays = cond (first == 0xB8) (cond (place == 0) strays (min (strays + 1) 4294967295)) strays

-- the place at which a packet that is not marked is taken
abbrev pub plain_answer : Frame → Result ℕ Refusal
plain_answer Waiting = Err NoFrame
plain_answer (Locked place misses) = cond (place == 0) (cond (nat_lt misses 2) (Ok 0) (Err NoFrame)) (Ok place)

-- the place at which a packet with this first byte is taken, or its refusal
abbrev pub lock_answer : Frame → ℕ → Result ℕ Refusal
lock_answer frame first = cond (first == 0x47) (plain_answer frame) (cond (first == 0xB8) (Ok (place_of frame)) (Err NoSyncByte))
