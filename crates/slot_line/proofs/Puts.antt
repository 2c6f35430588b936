-- What a put does to a line over slots.
use Rattle.std.proofs.Common.{◌≡◌, ℕ, ◌*◌, true, ◌≢◌, List, map, length, ℤ, Ok, vec_items, sym, ap, ◌∙◌}
use Rattle.std.specs.Vec.{with_items}
use Rattle.std.proofs.lemmas.List.{with_items_is}
use Rattle.line.specs.Segment.{Segment, all_segments}
use Rattle.line.specs.State.{Arrived}
use Rattle.line.specs.Line.{put_answer}
use Rattle.line.specs.Slots.{Slots, SlotPut}
use Rattle.line.specs.Ring.{slots}
use Rattle.line.specs.Bottom.{bottom_state}
use Rattle.line.proofs.Segments.{segments_push}
use Rattle.line.proofs.Bottoms.{put_waits, bottom_put, put_accepted}
use Rattle.slot_line.specs.Slot.{held}
use Rattle.slot_line.specs.State.{slot_state}
use Rattle.slot_line.specs.declared.Layout.{Ghosts}
use Rattle.slot_line.specs.declared.SlotLine.{SlotLine}

-- a line after a put of the segment f, whose memory now has the cells m
pub record Put {S C : Type 0} {layout : Ghosts S C} (l : SlotLine S C layout) (t : Slots) (m : List C) (f : List ℤ) : Type 0 where
  pub whole : l.memory.len ≡ layout.CELLS * t.room
  pub levels : all_segments (map (held layout.CELLS layout.segment_in (vec_items (with_items l.memory m))) t.taken) ≡ true
  pub answer : put_answer (slot_state l) f ≡ Ok tt
  pub after : Arrived (slot_state l) f (bottom_state (held layout.CELLS layout.segment_in (vec_items (with_items l.memory m))) t)

-- a write of a segment into the free slot k
pub put : {S C : Type 0} {layout : Ghosts S C} (l : SlotLine S C layout) (t : Slots) (d m : List C) (f : List ℤ) (k : ℕ) → SlotPut (slots l.ring) k t → length m ≡ l.memory.len → d ≡ vec_items l.memory →
    held layout.CELLS layout.segment_in m k ≡ f → ((i : ℕ) → (i ≢ k) → held layout.CELLS layout.segment_in m i ≡ held layout.CELLS layout.segment_in d i) → Segment f → Put l t m f
put {layout} l t d m f k p same ed here others g =
    let before = held layout.CELLS layout.segment_in (vec_items l.memory) in
    let after = held layout.CELLS layout.segment_in (vec_items (with_items l.memory m)) in
    let e = with_items_is l.memory m same in
    let now : after k ≡ f = ap (λ (xs : List _). held layout.CELLS layout.segment_in xs k) e ∙ here in
    let rest : (i : ℕ) → (i ≢ k) → after i ≡ before i = λ i ne. ap (λ (xs : List _). held layout.CELLS layout.segment_in xs i) e ∙ others i ne ∙ ap (λ (xs : List _). held layout.CELLS layout.segment_in xs i) ed in
    record {
      whole = l.whole ∙ ap (λ (u : Slots). layout.CELLS * u.room) (sym p.after);
      levels = ap all_segments (put_waits before after (slots l.ring) t k f p now rest) ∙ segments_push (map before (slots l.ring).taken) f l.levels g;
      answer = sym (put_accepted before (slots l.ring) f g p.accepted);
      after = bottom_put before after (slots l.ring) t k f p now rest g;
    }
