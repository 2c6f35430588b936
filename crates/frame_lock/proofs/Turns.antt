-- The laws of the lock's table.
use Rattle.std.proofs.Common.{◌≡◌, ℕ, suc, ◌+◌, ◌<◌, true, ◌⊎◌, List, [], ◌∷◌, length, Ok, Err, refl, ap, ◌∙◌, ⊎_elim, arith}
use Rattle.refusal.specs.declared.Refusal.{Refusal}
use Rattle.frame_lock.specs.declared.frame.Frame.{Frame}
use Rattle.frame_lock.specs.declared.frame.Frame.TheVariants.{Waiting, Locked}
use Rattle.frame_lock.specs.Table.{inside_frame, place_of, misses_of, place_after, next_frame, lock_answer}
use Rattle.frame_lock.specs.Laws.{LockLaws, frame_after}

stray : (frame : Frame) (first : ℕ) → 0 < place_of frame → misses_of (next_frame frame first) ≡ misses_of frame
stray Waiting first h = absurd (omega arith)
stray (Locked place misses) first h = grind arith

pub taken : (frame : Frame) (first place : ℕ) → inside_frame frame ≡ true → lock_answer frame first ≡ Ok place → (place ≡ place_of frame) × (place_of (next_frame frame first) ≡ place_after place)
taken Waiting first place i e = (grind arith, grind arith)
taken (Locked q m) first place i e = (grind arith, grind arith)

pub refused : (frame : Frame) (first : ℕ) (r : Refusal) → lock_answer frame first ≡ Err r → place_of (next_frame frame first) ≡ place_of frame
refused Waiting first r e = grind arith
refused (Locked q m) first r e = grind arith

-- one packet within a frame: the place stays or goes on, and the misses stay
within : (place misses first : ℕ) → 0 < place → place < 623 → (next_frame (Locked place misses) first ≡ Locked place misses) ⊎ (next_frame (Locked place misses) first ≡ Locked (place + 1) misses)
within place misses first h l = grind arith

stay : (firsts : List ℕ) (place misses : ℕ) → 0 < place → place + length firsts < 625 → misses_of (frame_after (Locked place misses) firsts) ≡ misses
stay [] place misses h l = refl
stay (first ∷ []) place misses h l = stray (Locked place misses) first h
stay (first ∷ second ∷ firsts) place misses h l =
    let few : place + suc (suc (length firsts)) < 625 = l in
    ⊎_elim
    (λ (e : next_frame (Locked place misses) first ≡ Locked place misses). ap (λ (f : Frame). misses_of (frame_after f (second ∷ firsts))) e ∙ stay (second ∷ firsts) place misses h (omega arith))
    (λ (e : next_frame (Locked place misses) first ≡ Locked (place + 1) misses). ap (λ (f : Frame). misses_of (frame_after f (second ∷ firsts))) e ∙ stay (second ∷ firsts) (place + 1) misses (omega arith) (omega arith))
    (within place misses first h (omega arith))

pub lock_laws : LockLaws
lock_laws = record {
  stray_clears_no_miss = stray;
  misses_stay_within_a_frame = λ place misses firsts. stay firsts place misses;
  third_miss_unlocks = (refl, refl);
  taken_in_turn = taken;
  refused_stays = refused;
}
