-- One lane more of a data segment that is read.
use Rattle.std.proofs.Common.{◌≡◌, ℕ, ◌+◌, ◌-◌, ◌*◌, ◌/◌, ◌%◌, ◌<◌, ◌≤◌, min, false, eqb, ◌≢◌, List, get_or, ℤ, sym, refl, ap, ◌∙◌, subst, arith, below_more}
use native.Mathlib.Nat.{min-eq_left}
use Rattle.std.proofs.lemmas.Bool.{ne_eqb}
use Rattle.trellis.specs.declared.reading.Marked.{Marked}
use Rattle.trellis.specs.declared.reading.Memory.{Memory}
use Rattle.trellis.specs.Places.{byte_encoder}
use Rattle.trellis.specs.Writer.{lane_encoder}
use Rattle.trellis.specs.Reader.{new_memory, memory_before, blank, part_of, SegmentOf, QuadRead, LaneHeld, ReaderAfter, LaneRead, ReadsOne, Reads}
use Rattle.trellis.proofs.Numbers.{lane_byte_row, lane_byte_encoder, lane_turn, turned_lane, other_lane}

-- the lanes below `place` are read, and the others wait
pub record LanesRead (levels : ℕ → ℤ) (n place : ℕ) (quad : List Marked) (memories : List Memory) : Type 0 where
  pub done : (j : ℕ) → j < place → get_or memories (lane_encoder n j) new_memory ≡ memory_before levels (lane_encoder n j) (69 * n + 69)
  pub done_held : (j : ℕ) → j < place → LaneHeld levels (n / 4) (lane_encoder n j) (69 * (n % 4) + 69) quad
  pub waiting : (j : ℕ) → place ≤ j → j < 12 → get_or memories (lane_encoder n j) new_memory ≡ memory_before levels (lane_encoder n j) (69 * n)
  pub waiting_held : (j : ℕ) → place ≤ j → j < 12 → LaneHeld levels (n / 4) (lane_encoder n j) (69 * (n % 4)) quad

pub record ReadsSome (symbols : List ℤ) (segment place : ℕ) (before : List Memory) (undoubted : ℕ) (old quad : List Marked) (memories : List Memory) : Type 0 where
  pub later_stay : (u : ℕ) → u < 828 → 69 * (segment % 4) + 69 ≤ 4 * (u / 12) → get_or quad u blank ≡ get_or old u blank
  pub by_history : (levels : ℕ → ℤ) (n : ℕ) → n % 12 ≡ segment % 12 → SegmentOf levels n symbols → ReaderAfter levels n before undoubted → QuadRead levels (n / 4) (69 * (n % 4)) old
      → LanesRead levels n place quad memories

module _ (symbols : List ℤ) (segment : ℕ) (before : List Memory) (undoubted : ℕ) (old : List Marked) where
  pub read_none : ReadsSome symbols segment 0 before undoubted old old before
  read_none =
      record {
        later_stay = λ u l h. refl;
        by_history = λ levels n r s a q. record {
          done = λ j m. absurd (omega arith);
          done_held = λ j m. absurd (omega arith);
          waiting = λ j m l. a.memories_are (lane_encoder n j) (omega arith);
          waiting_held = λ j m l u b c h. q u b h;
        };
      }

  module _ (place : ℕ) (quad new : List Marked) (memories after : List Memory) (pl : place < 12)
      (one : ReadsOne symbols (69 * (segment % 4)) place undoubted ((place + 4 * (segment % 3)) % 12) memories quad new after)
      (h : ReadsSome symbols segment place before undoubted old quad memories) where
    module _ (levels : ℕ → ℤ) (n : ℕ) (r : n % 12 ≡ segment % 12) (s : SegmentOf levels n symbols) (a : ReaderAfter levels n before undoubted) (q : QuadRead levels (n / 4) (69 * (n % 4)) old) where
      some : LanesRead levels n place quad memories
      some = h.by_history levels n r s a q

      turn : (place + 4 * (segment % 3)) % 12 ≡ lane_encoder n place
      turn = lane_turn n segment place r

      first : 69 * (segment % 4) ≡ 69 * (n % 4)
      first = ap (λ (k : ℕ). 69 * k) (omega arith)

      lane_is : LaneRead levels n (69 * (segment % 4)) place 69 new (get_or after ((place + 4 * (segment % 3)) % 12) new_memory)
      lane_is =
          let t = turn in
          one.lane.by_history levels n first a.undoubted_is s (rw t (some.waiting place (omega arith) pl))
          (subst (λ (k : ℕ). LaneHeld levels (n / 4) (lane_encoder n place) k quad) (sym first) (some.waiting_held place (omega arith) pl))

      -- the other encoders' memories and bytes stay
      rests : (j : ℕ) → j < 12 → j ≢ place → get_or after (lane_encoder n j) new_memory ≡ get_or memories (lane_encoder n j) new_memory
      rests j l ne = one.others (lane_encoder n j) (λ z. other_lane n j place l pl ne (z ∙ turn))

      stays : (j groups : ℕ) → j < 12 → j ≢ place → LaneHeld levels (n / 4) (lane_encoder n j) groups quad → LaneHeld levels (n / 4) (lane_encoder n j) groups new
      stays j groups l ne held u b c w =
          one.lane.others_stay u (λ g m z. other_lane n j place l pl ne (sym c ∙ (ap (λ (k : ℕ). byte_encoder (828 * (n / 4) + k)) z ∙ lane_byte_encoder n (69 * (segment % 4)) place g first pl m)))
          ∙ held u b c w

      lanes_more : LanesRead levels n (place + 1) new after
      lanes_more =
          record {
            done = below_more _ _ (λ j m. rests j (omega arith) (λ z. omega arith) ∙ some.done j m) (let t = turn in rw t at lane_is.memory_after);
            done_held = below_more (λ j. LaneHeld levels (n / 4) (lane_encoder n j) (69 * (n % 4) + 69) new) place
                (λ j m. stays j (69 * (n % 4) + 69) (omega arith) (λ z. omega arith) (some.done_held j m))
                (subst (λ (k : ℕ). LaneHeld levels (n / 4) (lane_encoder n place) (k + 69) new) first lane_is.bytes_held);
            waiting = λ j m l. rests j l (λ z. omega arith) ∙ some.waiting j (omega arith) l;
            waiting_held = λ j m l. stays j (69 * (n % 4)) l (λ z. omega arith) (some.waiting_held j (omega arith) l);
          }

    pub read_more : ReadsSome symbols segment (place + 1) before undoubted old new after
    read_more =
        record {
          later_stay = λ u l m.
              one.lane.others_stay u (λ g k z. let r : u / 12 ≡ (69 * (segment % 4) + g) / 4 = ap (λ (v : ℕ). v / 12) z ∙ lane_byte_row (69 * (segment % 4)) place (69 * (segment % 4) + g) pl in omega arith)
              ∙ h.later_stay u l m;
          by_history = lanes_more;
        }

  pub read_all : (quad : List Marked) (memories : List Memory) → ReadsSome symbols segment 12 before undoubted old quad memories → Reads symbols segment before undoubted old quad memories 0
  read_all quad memories h =
      record {
        later_stay = h.later_stay;
        by_history = λ levels n r s a q.
            let w = h.by_history levels n r s a q in
            let held : QuadRead levels (n / 4) (69 * (n % 4) + 69) quad =
            λ u l m. w.done_held ((byte_encoder (828 * (n / 4) + u) + 8 * n) % 12) (omega arith) u l (sym (turned_lane n (byte_encoder (828 * (n / 4) + u)) (omega arith))) m in
            record {
              reader_after = record {
                memories_are = λ e l.
                    let t = turned_lane n e l in
                    let m : 69 * (n + 1) ≡ 69 * n + 69 = omega arith in
                    rw m (rw t at (w.done ((e + 8 * n) % 12) (omega arith)));
                undoubted_is = let k : eqb (n + 1) 0 ≡ false = ne_eqb (n + 1) 0 (λ z. omega arith) in rw k;
              };
              bytes_read = held;
              quad_read = λ t u l.
                  let k : min 4 (69 * (n % 4) + 69 - 4 * (u / 12)) ≡ 4 = min-eq_left (omega arith) in
                  held u l (omega arith) ∙ ap (part_of levels (828 * (n / 4) + u)) k;
            };
      }
