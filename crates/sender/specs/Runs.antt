-- Calls on a sender since its start, and the segments they put.
use Rattle.std.specs.Prelude.{◌≡◌, ℕ, ◌+◌, ◌%◌, cond, List, [], ◌∷◌, ◌++◌, length, replicate, ℤ, Ok, Err, Result, ◌==◌, slice_index_or}
use Rattle.refusal.specs.declared.Refusal.{Refusal}
use Rattle.line.specs.State.{State}
use Rattle.stream.specs.Carried.{AllPut}
use Rattle.stream.specs.Sent.{put_for}
use Rattle.sender.specs.Sending.{Sending}
use Rattle.sender.specs.Offers.{offer_answer, Offered, SyncSet, Started}

-- a call that was made, with its answer
pub data Call : Type 0 where
  offered : List ℕ → Result (Unit {0}) Refusal → Call
  set : List ℕ → Result (Unit {0}) Refusal → Call

-- what one call does to a sender and the line that it is given
abbrev pub Step : Sending → State → Call → Sending → State → Type 0
Step w l (offered packet r) v l' = (r ≡ offer_answer w l packet) × Offered w l packet r v l'
Step w l (set sync r) v l' = (l' ≡ l) × SyncSet w.sender sync r v.sender × (v.delay ≡ w.delay) × (v.quad ≡ w.quad) × (v.last ≡ w.last)

-- the calls, oldest first, lead from w to v; each may be given another line
abbrev pub Run : Sending → List Call → Sending → Type 0
Run w [] v = v ≡ w
Run w (c ∷ cs) v = (u : Sending) × (l : State) × (l' : State) × Step w l c u l' × Run u cs v

-- the packets taken
abbrev pub taken : List Call → List (List ℕ)
taken [] = []
taken (offered packet (Ok x) ∷ cs) = packet ∷ taken cs
taken (offered packet (Err e) ∷ cs) = taken cs
taken (set sync r ∷ cs) = taken cs

-- the sync data in force when each field sync was put, where n packets were taken before and `sync` was in force
abbrev pub syncs_from : ℕ → List ℕ → List Call → List (List ℕ)
syncs_from n sync [] = []
syncs_from n sync (offered packet (Ok x) ∷ cs) = cond (n % 312 == 3) (sync ∷ syncs_from (n + 1) sync cs) (syncs_from (n + 1) sync cs)
syncs_from n sync (offered packet (Err e) ∷ cs) = syncs_from n sync cs
syncs_from n sync (set next (Ok x) ∷ cs) = syncs_from n next cs
syncs_from n sync (set next (Err e) ∷ cs) = syncs_from n sync cs

-- packet t of a list, and sync data f
abbrev pub numbered : List (List ℕ) → ℕ → List ℕ
numbered xs t = slice_index_or xs t []

-- the segments that the last of the calls puts: those of the closed form, after all calls since the start
abbrev pub next_segments : List Call → Call → List (List ℤ)
next_segments cs c = put_for (numbered (taken (cs ++ c ∷ []))) (numbered (syncs_from 0 (replicate 15 0) (cs ++ c ∷ []))) (length (taken cs))

-- for all calls since the start, refused ones included, and whatever lines they were given: the call comes next, and a packet taken puts the segments that follow
pub record Continues (w : Sending) (l : State) (c : Call) (v : Sending) (l' : State) : Type 0 where
  pub run : (z : Sending) (cs : List Call) → Started z → Run z cs w → Run z (cs ++ c ∷ []) v
  pub segments : (z : Sending) (cs : List Call) (packet : List ℕ) → Started z → Run z cs w → c ≡ offered packet (Ok tt) → AllPut l (next_segments cs c) l'
