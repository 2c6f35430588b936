-- What a layer owes follows from what the lower line does.
use Rattle.std.proofs.Common.{◌≡◌, ℕ, ◌+◌, ◌*◌, ◌<◌, Bool, false, List, get_or, ℤ, pos, Ok, Err, ap, ◌∙◌, arith}
use Rattle.line.specs.declared.LineRefusal.{LineRefusal}
use Rattle.line.specs.Refusals.{under_a_layer}
use Rattle.line.specs.State.{State, Sound, Arrived, Taken}
use Rattle.line.specs.Line.{put_answer, take_answer}
use Rattle.line.specs.Layer.{layered}

-- a layer over a sound line is sound
pub layered_sound : (q : ℕ → Bool) (s : State) → Sound s → Sound (layered q s)
layered_sound q s h = record { room_least = h.room_least; room_most = h.room_most; fits = h.fits; numbered = h.numbered; segments = h.segments }

-- an accepted put
pub layered_put_ok : (q : ℕ → Bool) (s : State) (f : List ℤ) → Ok tt ≡ put_answer s f → Ok tt ≡ put_answer (layered q s) f
layered_put_ok q s f e = grind arith

-- a refused put
pub layered_put_err : (q : ℕ → Bool) (s : State) (f : List ℤ) (e x : LineRefusal) → Err e ≡ put_answer s f → x ≡ under_a_layer e → Err x ≡ put_answer (layered q s) f
layered_put_err q s f e x h ex = grind arith

-- an accepted take
pub layered_take_ok : (q : ℕ → Bool) (s : State) (n : ℕ) → Ok tt ≡ take_answer s n → Ok tt ≡ take_answer (layered q s) n
layered_take_ok q s n e = grind arith

-- a refused take
pub layered_take_err : (q : ℕ → Bool) (s : State) (n : ℕ) (e x : LineRefusal) → Err e ≡ take_answer s n → x ≡ under_a_layer e → Err x ≡ take_answer (layered q s) n
layered_take_err q s n e x h ex = grind arith

-- a segment that the layer altered in its own places only
pub layered_arrived : (q : ℕ → Bool) (s t : State) (f f' : List ℤ) → ((i : ℕ) → i < 832 → q (832 * s.number + i) ≡ false → get_or f' i (pos 0) ≡ get_or f i (pos 0)) → Arrived s f' t → Arrived (layered q s) f (layered q t)
layered_arrived q s t f f' own a =
    record {
      came = a.came;
      stands =
          record {
            segment = a.stands.segment;
            same = λ i h dark. a.stands.same i h (grind arith) ∙ own i h (grind arith);
          };
      after = ap (layered q) a.after;
    }

-- a take from the lower line
pub layered_taken : (q : ℕ → Bool) (s t : State) (g : List ℤ) → Taken s g t → Taken (layered q s) g (layered q t)
layered_taken q s t g a = record { rest = a.rest; oldest = a.oldest; after = ap (layered q) a.after }
