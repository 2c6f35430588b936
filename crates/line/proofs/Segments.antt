-- Lists of segments, as facts and as tests.
use Rattle.std.proofs.Common.{◌≡◌, true, List, [], ◌∷◌, ◌++◌, ℤ, arith}
use Rattle.std.proofs.lemmas.List.Elements.{All-nil, All-cons}
use Rattle.line.specs.Segment.{Segment, Segments, is_segment, all_segments}

-- a segment from its test
pub segment_of : (g : List ℤ) → is_segment g ≡ true → Segment g
segment_of g e = record { long = grind arith; levels = grind arith }

-- the test of a segment
pub segment_is : (g : List ℤ) → Segment g → is_segment g ≡ true
segment_is g s = grind arith

-- segments from their test
pub segments_of : (gs : List (List ℤ)) → all_segments gs ≡ true → Segments gs
segments_of [] e = All-nil Segment
segments_of (g ∷ gs) e = All-cons Segment g gs (segment_of g (grind arith)) (segments_of gs (grind arith))

-- one more segment at the end
pub segments_push : (gs : List (List ℤ)) (g : List ℤ) → all_segments gs ≡ true → Segment g → all_segments (gs ++ g ∷ []) ≡ true
segments_push [] g e s = let t = segment_is g s in grind arith
segments_push (x ∷ gs) g e s = let u = segments_push gs g (grind arith) s in grind arith

-- all but the first
pub segments_rest : (g : List ℤ) (gs : List (List ℤ)) → all_segments (g ∷ gs) ≡ true → all_segments gs ≡ true
segments_rest g gs e = grind arith
