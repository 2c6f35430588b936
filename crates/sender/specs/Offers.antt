-- What an offer answers, and what it leaves.
use Rattle.std.specs.Prelude.{◌≡◌, ℕ, ◌+◌, ◌-◌, ◌/◌, ◌%◌, ◌^◌, min, Bool, true, false, cond, List, length, replicate, ℤ, pos, Ok, Err, Result, MatchResult, ◌==◌, nat_lt, slice_index}
use Rattle.rows.specs.Code.{Bytes}
use Rattle.refusal.specs.declared.Refusal.{Refusal}
use Rattle.refusal.specs.declared.Refusal.TheVariants.{WrongLength, NoSyncByte, NoFrame, NumbersUsedUp, NotALevel, TooLittleRoom, TooFewWaiting, SyncTailNotZero}
use Rattle.frame_lock.specs.declared.frame.Frame.{Frame}
use Rattle.frame_lock.specs.declared.frame.Frame.TheVariants.{Waiting}
use Rattle.frame_lock.specs.Table.{lock_answer, next_frame, next_strays}
use Rattle.segments.specs.Segment.{sync_answer}
use Rattle.line.specs.State.{State}
use Rattle.stream.specs.Carried.{AllPut}
use Rattle.stream.specs.Sent.{put_for}
use Rattle.sender.specs.declared.sender.Sender.{Sender}
use Rattle.sender.specs.Sending.{Sending, Comes}

-- whether the three memories have their lengths
abbrev pub memories_fit : ℕ → ℕ → ℕ → Bool
memories_fit delay quad last = cond (delay == 5304) (cond (quad == 828) (last == 832) false) false

-- how many segments a packet at a place puts: a quad's fourth four, and a field sync where the quad begins a field
abbrev pub needed_at : ℕ → ℕ
needed_at place = cond (place % 4 == 3) (cond (place % 312 == 3) 5 4) 0

-- refused where the line has too few numbers left, and then where it has too little room
abbrev pub room_answer : ℕ → State → Result (Unit {0}) Refusal
room_answer needed l =
    cond (nat_lt (2 ^ 40) (l.number + needed)) (Err (NumbersUsedUp l.number needed))
    (cond (nat_lt (l.room - length l.waiting) needed) (Err (TooLittleRoom needed (l.room - length l.waiting))) (Ok tt))

-- refused by the lock, and then by the line
abbrev pub by_lock : Result ℕ Refusal → State → Result (Unit {0}) Refusal
by_lock (Ok place) l = room_answer (needed_at place) l
by_lock (Err e) l = Err e

-- the answer to a packet: refused where a memory or the packet has another length, and then by the lock and the line
abbrev pub offer_answer : Sending → State → List ℕ → Result (Unit {0}) Refusal
offer_answer w l packet =
    cond (memories_fit (length w.delay) (length w.quad) (length w.last))
    (cond (length packet == 188) (by_lock (lock_answer w.sender.lock.frame (slice_index packet 0)) l) (Err WrongLength))
    (Err WrongLength)

-- a packet is taken: the lock moves by its table, and for all packets taken before it, it puts the segments that belong to it
pub record Took (w : Sending) (l : State) (packet : List ℕ) (v : Sending) (l' : State) : Type 0 where
  pub long : length packet ≡ 188
  pub bytes : Bytes packet
  pub frame : v.sender.lock.frame ≡ next_frame w.sender.lock.frame (slice_index packet 0)
  pub strays : v.sender.lock.strays ≡ next_strays w.sender.lock.frame (slice_index packet 0) w.sender.lock.strays
  pub sync : v.sender.sync ≡ w.sender.sync
  pub taken : v.sender.taken ≡ min (w.sender.taken + 1) 18446744073709551615
  pub run : (packets syncs : ℕ → List ℕ) (n : ℕ) → Comes packets n w → packets n ≡ packet → (n % 312 ≡ 3 → syncs (n / 312) ≡ w.sender.sync)
      → Comes packets (n + 1) v × AllPut l (put_for packets syncs n) l'

-- the lock after a refusal: only where no frame is found may it have been unlocked
abbrev pub frame_after : Refusal → Frame → Frame
frame_after NoFrame frame = Waiting
frame_after WrongLength frame = frame
frame_after NoSyncByte frame = frame
frame_after (NumbersUsedUp next needed) frame = frame
frame_after NotALevel frame = frame
frame_after (TooLittleRoom needed found) frame = frame
frame_after (TooFewWaiting needed found) frame = frame
frame_after SyncTailNotZero frame = frame

-- a packet is refused: nothing but the lock may alter, and the packets taken stay the same
pub record Refused (e : Refusal) (w : Sending) (l : State) (v : Sending) (l' : State) : Type 0 where
  pub line : l' ≡ l
  pub memories : (v.delay ≡ w.delay) × (v.quad ≡ w.quad) × (v.last ≡ w.last)
  pub frame : v.sender.lock.frame ≡ frame_after e w.sender.lock.frame
  pub strays : v.sender.lock.strays ≡ w.sender.lock.strays
  pub branches : v.sender.delay ≡ w.sender.delay
  pub encoders : v.sender.trellis ≡ w.sender.trellis
  pub sync : v.sender.sync ≡ w.sender.sync
  pub taken : v.sender.taken ≡ w.sender.taken
  pub run : (packets : ℕ → List ℕ) (n : ℕ) → Comes packets n w → Comes packets n v

-- what an offer leaves
abbrev pub Offered : Sending → State → List ℕ → Result (Unit {0}) Refusal → Sending → State → Type 0
Offered w l packet r v l' = MatchResult r (λ _. Took w l packet v l') (λ e. Refused e w l v l')

-- the sync data is set, or refused: all else stays
pub record SyncSet (s : Sender) (sync : List ℕ) (r : Result (Unit {0}) Refusal) (t : Sender) : Type 0 where
  pub answer : r ≡ sync_answer sync
  pub sync_after : MatchResult r (λ _. t.sync ≡ sync) (λ _. t.sync ≡ s.sync)
  pub lock : t.lock ≡ s.lock
  pub branches : t.delay ≡ s.delay
  pub encoders : t.trellis ≡ s.trellis
  pub taken : t.taken ≡ s.taken

-- a sender that has just been started on cleared memories
pub record Started (w : Sending) : Type 0 where
  pub waiting : w.sender.lock.frame ≡ Waiting
  pub no_strays : w.sender.lock.strays ≡ 0
  pub no_sync : w.sender.sync ≡ replicate 15 0
  pub cleared : (w.delay ≡ replicate 5304 0) × (w.quad ≡ replicate 828 0) × (w.last ≡ replicate 832 (pos 0))
  pub comes : (packets : ℕ → List ℕ) → Comes packets 0 w

-- starting: a new sender on memories of the right lengths, else a refusal that leaves them
abbrev pub Starts : List ℕ → List ℕ → List ℤ → Result Sender Refusal → List ℕ → List ℕ → List ℤ → Type 0
Starts delay quad last r delay' quad' last' = MatchResult r
    (λ s. (memories_fit (length delay) (length quad) (length last) ≡ true) × Started (record { sender = s; delay = delay'; quad = quad'; last = last' }))
    (λ e. (memories_fit (length delay) (length quad) (length last) ≡ false) × (e ≡ WrongLength) × (delay' ≡ delay) × (quad' ≡ quad) × (last' ≡ last))
