-- What a put and a take of a slot are to a line at the bottom.
use Rattle.std.proofs.Common.{◌≡◌, ℕ, ◌+◌, List, [], ◌∷◌, ◌++◌, map, ℤ, Some, None, Ok, Err, sym, refl, ap, ◌∙◌, arith}
use Rattle.std.specs.List.{All}
use Rattle.std.proofs.lemmas.List.Elements.{All-head, All-tail}
use Rattle.std.proofs.lemmas.List.{map_push, length-map}
use Rattle.line.specs.declared.LineFault.{LineFault}
use Rattle.line.specs.declared.LineRefusal.{LineRefusal}
use Rattle.line.specs.Refusals.{found_here}
use Rattle.line.specs.declared.ring.Ring.{Ring}
use Rattle.line.specs.Segment.{Segment, Segments}
use Rattle.line.specs.State.{Sound, Arrived, Taken}
use Rattle.line.specs.Line.{put_answer, take_answer}
use Rattle.line.specs.Slots.{Slots, SlotPut, SlotTaken, put_fault, take_fault}
use Rattle.line.specs.Ring.{slots}
use Rattle.line.specs.Bottom.{bottom_state}
use Rattle.line.proofs.Turns.{from_slot_length}

-- slots that a write elsewhere leaves as they were
pub held_same : (held held' : ℕ → List ℤ) (k : ℕ) → ((i : ℕ) → (i ≡ k → ⊥) → held' i ≡ held i) → (ks : List ℕ) → All (λ j. j ≡ k → ⊥) ks → map held' ks ≡ map held ks
held_same held held' k others [] a = refl
held_same held held' k others (j ∷ ks) a = let e = others j (All-head (λ i. i ≡ k → ⊥) j ks a) in let f = held_same held held' k others ks (All-tail (λ i. i ≡ k → ⊥) j ks a) in cc

-- the waiting segments after a put
pub put_waits : (held held' : ℕ → List ℤ) (s t : Slots) (k : ℕ) (f : List ℤ) → SlotPut s k t → held' k ≡ f → ((i : ℕ) → (i ≡ k → ⊥) → held' i ≡ held i) → map held' t.taken ≡ map held s.taken ++ f ∷ []
put_waits held held' s t k f p here others =
    ap (λ (u : Slots). map held' u.taken) p.after ∙ map_push held' s.taken k ∙
    ap (λ ws. ws ++ held' k ∷ []) (held_same held held' k others s.taken p.free) ∙
    ap (λ g. map held s.taken ++ g ∷ []) here

-- a put into a free slot is a put on the line
pub bottom_put : (held held' : ℕ → List ℤ) (s t : Slots) (k : ℕ) (f : List ℤ) → SlotPut s k t → held' k ≡ f → ((i : ℕ) → (i ≡ k → ⊥) → held' i ≡ held i) → Segment f → Arrived (bottom_state held s) f (bottom_state held' t)
bottom_put held held' s t k f p here others seg =
    record {
      came = f;
      stands = record { segment = seg; same = λ i h dark. refl };
      after =
          let w = put_waits held held' s t k f p here others in
          let r : t.room ≡ s.room = ap (λ (u : Slots). u.room) p.after in
          let n : t.number ≡ s.number + 1 = ap (λ (u : Slots). u.number) p.after in
          cc;
    }

-- a take from the oldest slot is a take from the line
pub bottom_take : (held : ℕ → List ℤ) (s t : Slots) (k : ℕ) (g : List ℤ) → SlotTaken s k t → g ≡ held k → Taken (bottom_state held s) g (bottom_state held t)
bottom_take held s t k g p e =
    record {
      rest = map held t.taken;
      oldest = ap (map held) p.oldest ∙ ap (λ x. x ∷ map held t.taken) (sym e);
      after = let r = p.room_stays in let n = p.number_stays in cc;
    }

-- the answer to a put that finds a slot
pub put_accepted : (held : ℕ → List ℤ) (s : Slots) (f : List ℤ) → Segment f → put_fault s ≡ None → Ok tt ≡ put_answer (bottom_state held s) f
put_accepted held s f g e = let m = length-map s.taken held in let a = g.long in let b = g.levels in grind arith

-- the answer to a put that finds none
pub put_refused : (held : ℕ → List ℤ) (s : Slots) (f : List ℤ) (x : LineFault) (n : ℕ) (e : LineRefusal) → Segment f → put_fault s ≡ Some x → n ≡ s.number → e ≡ found_here x n → Err e ≡ put_answer (bottom_state held s) f
put_refused held s f x n e g h en ee = ap Err (ee ∙ ap (found_here x) en) ∙ (let m = length-map s.taken held in let a = g.long in let b = g.levels in grind arith)

-- the answer to a take that finds a segment
pub take_accepted : (held : ℕ → List ℤ) (s : Slots) (n : ℕ) → n ≡ 832 → take_fault s ≡ None → Ok tt ≡ take_answer (bottom_state held s) n
take_accepted held s n l e = let m = length-map s.taken held in grind arith

-- the answer to a take that finds none
pub take_refused : (held : ℕ → List ℤ) (s : Slots) (l : ℕ) (x : LineFault) (n : ℕ) (e : LineRefusal) → l ≡ 832 → take_fault s ≡ Some x → n ≡ s.number → e ≡ found_here x n → Err e ≡ take_answer (bottom_state held s) l
take_refused held s l x n e long h en ee = ap Err (ee ∙ ap (found_here x) en) ∙ (let m = length-map s.taken held in grind arith)

-- a line at the bottom is sound where nothing but segments waits
pub bottom_sound : (held : ℕ → List ℤ) (r : Ring) → Segments (map held (slots r).taken) → Sound (bottom_state held (slots r))
bottom_sound held r g =
    record {
      room_least = r.least;
      room_most = r.most;
      fits = let m = length-map (slots r).taken held in let n = from_slot_length r.room r.head r.count in omega (arith, r.fits);
      numbered = r.numbered;
      segments = g;
    }
