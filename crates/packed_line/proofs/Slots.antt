-- What the slots of a packed line hold.
use Rattle.std.specs.Prelude.{◌≡◌, ℕ, ◌+◌, ◌-◌, ◌*◌, ◌≤◌, List, map, length, drop, ℤ, vec_items, ◌≢◌}
use Rattle.std.proofs.Common.{ap, ◌∙◌, arith}
use Rattle.std.specs.Vec.{with_items}
use Rattle.std.proofs.lemmas.List.{with_items_is, length-drop, length-take-le}
use Rattle.line.specs.Segment.{Segment, Segments}
use Rattle.line.specs.Slots.{block}
use Rattle.line.specs.Ring.{slots}
use Rattle.line.proofs.Segments.{segments_of}
use Rattle.packed_line.specs.Packing.{packed_slot}
use Rattle.packed_line.specs.Packed.{PackedLine}
use Rattle.packed_line.proofs.Packs.{unpacked_length, unpacked_levels}

block_length : (memory : List ℕ) (k : ℕ) → 312 * k + 312 ≤ length memory → length (block 312 memory k) ≡ 312
block_length memory k h = let d = length-drop (312 * k) memory in length-take-le (312 * k + 312 - 312 * k) (drop (312 * k) memory) (omega arith) ∙ omega arith

slot_segment : (memory : List ℕ) (k : ℕ) → 312 * k + 312 ≤ length memory → Segment (packed_slot memory k)
slot_segment memory k h = record { long = unpacked_length 104 (block 312 memory k) (block_length memory k h); levels = unpacked_levels (block 312 memory k) }

-- nothing but segments waits
pub packed_segments : (l : PackedLine) → Segments (map (packed_slot (vec_items l.memory)) (slots l.ring).taken)
packed_segments l = segments_of _ l.levels

-- the slots of a memory that was written through a slice
pub record Written (l : PackedLine) (m : List ℕ) (f : List ℤ) (k : ℕ) : Type 0 where
  pub here : packed_slot (vec_items (with_items l.memory m)) k ≡ f
  pub others : (i : ℕ) → (i ≢ k) → packed_slot (vec_items (with_items l.memory m)) i ≡ packed_slot (vec_items l.memory) i

pub written : (l : PackedLine) (d m : List ℕ) (f : List ℤ) (k : ℕ) → length m ≡ l.memory.len → d ≡ vec_items l.memory → packed_slot m k ≡ f → ((i : ℕ) → (i ≢ k) → packed_slot m i ≡ packed_slot d i) → Written l m f k
written l d m f k same ed here others =
    let e = with_items_is l.memory m same in
    record {
      here = ap (λ (xs : List ℕ). packed_slot xs k) e ∙ here;
      others = λ i ne. ap (λ (xs : List ℕ). packed_slot xs i) e ∙ others i ne ∙ ap (λ (xs : List ℕ). packed_slot xs i) ed;
    }
