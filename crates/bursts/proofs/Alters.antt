-- Laws of bursts and of what they alter.
use Rattle.std.proofs.Common.{◌≡◌, ℕ, zero, suc, ◌+◌, ◌-◌, ◌<◌, ◌≤◌, Bool, true, false, cond, ◌||◌, List, [], ◌∷◌, ◌++◌, length, get_or, take, drop, map, set, ℤ, pos, neg_ℤ, Ok, Err, Result, sym, refl, ap, ◌∙◌, subst, ⊎_elim, arith, w8, to_z, of_z, MatchResult}
use borrow.Rule.Slice.PartMut.{put_mid}
use Rattle.std.specs.List.{All, between, list_any}
use Rattle.std.proofs.lemmas.Int.{to_z-of_z}
use Rattle.std.proofs.lemmas.List.Elements.{All-head, All-tail}
use Rattle.std.proofs.lemmas.Bool.{cases_lt}
use Rattle.std.proofs.Math.ListN.{get_or-map}
use Rattle.std.proofs.Math.Seq.{get_or-append_right}
use Rattle.std.proofs.lemmas.List.{at_drop_more, at_drop_all, ext_get_or, get_or_append_left, get_or-take, get_or-drop, length-map, length-take-le, length-drop}
use Rattle.level.specs.Level.{is_level, all_levels}
use Rattle.level.proofs.Levels.{levels_at, level_fits, level_negated}
use Rattle.line.specs.declared.LineRefusal.{LineRefusal}
use Rattle.line.specs.State.{State, Arrived}
use Rattle.std.specs.Result.{IsErrAnd}
use Rattle.line.specs.Line.{put_answer}
use Rattle.line.specs.Layer.{layered}
use Rattle.line.proofs.Layers.{layered_arrived}
use Rattle.bursts.specs.Layer.{first_place}
use Rattle.bursts.specs.declared.Burst.{Burst}
use Rattle.bursts.specs.Bursts.{in_part, in_burst, in_bursts, altered}

abbrev none : Burst
none = record { offset = 0; length = 0 }

-- one burst of a walk along the bursts, and its end
pub bursts_next : (bs : List Burst) (i p : ℕ) → i < length bs → in_bursts (drop i bs) p ≡ cond (in_burst (get_or bs i none) p) true (in_bursts (drop (i + 1) bs) p)
bursts_next bs i p h = at_drop_more (λ xs. in_bursts xs p) bs i none h

pub bursts_end : (bs : List Burst) (i p : ℕ) → length bs ≤ i → in_bursts (drop i bs) p ≡ false
bursts_end bs i p h = at_drop_all (λ xs. in_bursts xs p) bs i h

-- whether some burst covers a place
pub covers : (bs : List Burst) (p : ℕ) → list_any (λ b. in_burst b p) bs ≡ in_bursts bs p
covers [] p = refl
covers (b ∷ bs) p = let e = covers bs p in elim (in_burst b p) as (λ t. (t || list_any (λ c. in_burst c p) bs) ≡ cond t true (in_bursts bs p)) [ true ↦ refl | false ↦ e ]

-- bursts that each leave a place out
pub leave_out : (bs : List Burst) (p : ℕ) → All (λ b. in_burst b p ≡ false) bs → in_bursts bs p ≡ false
leave_out [] p a = refl
leave_out (b ∷ bs) p a = let h = All-head (λ c. in_burst c p ≡ false) b bs a in let e = leave_out bs p (All-tail (λ c. in_burst c p ≡ false) b bs a) in ap (λ t. cond t true (in_bursts bs p)) h ∙ e

-- symbols of which the first i are negated: the next one, one more, and all
pub next_level : (xs : List ℤ) (i : ℕ) → i < length xs → get_or (map neg_ℤ (take i xs) ++ drop i xs) i (pos 0) ≡ get_or xs i (pos 0)
next_level [] i h = absurd (omega arith)
next_level (x ∷ xs) zero h = refl
next_level (x ∷ xs) (suc i) h = next_level xs i (omega arith)

pub one_more : (xs : List ℤ) (i : ℕ) (v : ℤ) → i < length xs → v ≡ neg_ℤ (get_or xs i (pos 0)) → set (map neg_ℤ (take i xs) ++ drop i xs) i v ≡ map neg_ℤ (take (suc i) xs) ++ drop (suc i) xs
one_more [] i v h e = absurd (omega arith)
one_more (x ∷ xs) zero v h e = ap (λ y. y ∷ xs) e
one_more (x ∷ xs) (suc i) v h e = ap (λ ys. neg_ℤ x ∷ ys) (one_more xs i v (omega arith) e)

pub all_negated : (xs : List ℤ) (n : ℕ) → n ≡ length xs → map neg_ℤ (take n xs) ++ drop n xs ≡ map neg_ℤ xs
all_negated [] zero h = refl
all_negated [] (suc n) h = refl
all_negated (x ∷ xs) zero h = absurd (omega arith)
all_negated (x ∷ xs) (suc n) h = ap (λ ys. neg_ℤ x ∷ ys) (all_negated xs n (omega arith))

-- of two lists of one length, the first symbols of one negated before the rest of the other: one more
pub one_negated : (xs ys : List ℤ) (i : ℕ) (v : ℤ) → i < length xs → length ys ≡ length xs → v ≡ neg_ℤ (get_or xs i (pos 0)) → set (map neg_ℤ (take i xs) ++ drop i ys) i v ≡ map neg_ℤ (take (suc i) xs) ++ drop (suc i) ys
one_negated [] ys i v h l e = absurd (omega arith)
one_negated (x ∷ xs) [] i v h l e = absurd (omega arith)
one_negated (x ∷ xs) (y ∷ ys) zero v h l e = ap (λ z. z ∷ ys) e
one_negated (x ∷ xs) (y ∷ ys) (suc i) v h l e = ap (λ zs. neg_ℤ x ∷ zs) (one_negated xs ys i v (omega arith) (omega arith) e)

-- the opposite of one of several levels, as it is read and written
pub opposite_read : (xs : List ℤ) (i : ℕ) (r : ℤ) → all_levels xs ≡ true → i < length xs → r ≡ neg_ℤ (to_z w8 (of_z w8 (get_or xs i (pos 0)))) → to_z w8 (of_z w8 r) ≡ neg_ℤ (get_or xs i (pos 0))
opposite_read xs i r e h q =
    let x = get_or xs i (pos 0) in
    let l = levels_at xs i e h in
    let is : r ≡ neg_ℤ x = q ∙ ap neg_ℤ (to_z-of_z w8 x (level_fits x l)) in
    to_z-of_z w8 r (level_fits r (ap is_level is ∙ level_negated x ∙ l)) ∙ is

-- a part of which the symbols were negated
pub part_negated : (xs ys : List ℤ) (start end k : ℕ) → length ys ≡ length xs → start ≤ end → end ≤ length xs → k < length xs →
    get_or (put_mid start (end - start) ys (map neg_ℤ (between start end xs))) k (pos 0) ≡ cond (in_part start end k) (neg_ℤ (get_or xs k (pos 0))) (get_or ys k (pos 0))
part_negated xs ys start end k same a b h =
    let front = take start ys in
    let part = map neg_ℤ (take (end - start) (drop start xs)) in
    let tail = drop (end - start) (drop start ys) in
    let lf : length front ≡ start = length-take-le start ys (omega arith) in
    let lp : length part ≡ end - start = length-map (take (end - start) (drop start xs)) neg_ℤ ∙ length-take-le (end - start) (drop start xs) (let d = length-drop start xs in omega arith) in
    let at = k - length front in
    let x = get_or xs k (pos 0) in
    let y = get_or ys k (pos 0) in
    let by : (t : Bool) → in_part start end k ≡ t → cond t (neg_ℤ x) y ≡ cond (in_part start end k) (neg_ℤ x) y = λ t e. ap (λ b. cond b (neg_ℤ x) y) (sym e) in
    ⊎_elim
    (λ (low : k < start). get_or_append_left front (part ++ tail) (pos 0) k (omega arith) ∙ get_or-take start ys k (pos 0) low ∙ by false (grind arith))
    (λ (l : start ≤ k).
    get_or-append_right front (part ++ tail) k (pos 0) (omega arith) ∙
    ⊎_elim
    (λ (u : k < end).
    get_or_append_left part tail (pos 0) at (omega arith) ∙ get_or-map neg_ℤ (take (end - start) (drop start xs)) at (pos 0) ∙
    ap neg_ℤ (get_or-take (end - start) (drop start xs) at (pos 0) (omega arith) ∙ get_or-drop start xs at (pos 0) ∙ ap (λ j. get_or xs j (pos 0)) (let e : start + at ≡ k = omega arith in e)) ∙ by true (grind arith))
    (λ (u : end ≤ k).
    get_or-append_right part tail at (pos 0) (omega arith) ∙ get_or-drop (end - start) (drop start ys) (at - length part) (pos 0) ∙ get_or-drop start ys (end - start + (at - length part)) (pos 0) ∙
    ap (λ j. get_or ys j (pos 0)) (let e : start + (end - start + (at - length part)) ≡ k = omega arith in e) ∙ by false (grind arith))
    (cases_lt k end))
    (cases_lt k start)

-- altered symbols are as many
pub altered_length : (bs : List Burst) (p : ℕ) (f : List ℤ) → length (altered bs p f) ≡ length f
altered_length bs p [] = refl
altered_length bs p (x ∷ f) = ap suc (altered_length bs (p + 1) f)

-- and levels where they were
pub altered_levels : (bs : List Burst) (p : ℕ) (f : List ℤ) → all_levels (altered bs p f) ≡ all_levels f
altered_levels bs p [] = refl
altered_levels bs p (x ∷ f) =
    let e : is_level (cond (in_bursts bs p) (neg_ℤ x) x) ≡ is_level x = elim (in_bursts bs p) as (λ b. is_level (cond b (neg_ℤ x) x) ≡ is_level x) [ true ↦ level_negated x | false ↦ refl ] in
    ap (λ b. cond b (all_levels (altered bs (p + 1) f)) false) e ∙ ap (λ b. cond (is_level x) b false) (altered_levels bs (p + 1) f)

-- one altered symbol
pub altered_at : (bs : List Burst) (p : ℕ) (f : List ℤ) (i : ℕ) → i < length f → get_or (altered bs p f) i (pos 0) ≡ cond (in_bursts bs (p + i)) (neg_ℤ (get_or f i (pos 0))) (get_or f i (pos 0))
altered_at bs p [] i h = absurd (omega arith)
altered_at bs p (x ∷ f) zero h = let e : p + 0 ≡ p = omega arith in ap (λ q. cond (in_bursts bs q) (neg_ℤ x) x) (sym e)
altered_at bs p (x ∷ f) (suc i) h =
    let e : p + 1 + i ≡ p + suc i = omega arith in
    altered_at bs (p + 1) f i (omega arith) ∙ ap (λ q. cond (in_bursts bs q) (neg_ℤ (get_or f i (pos 0))) (get_or f i (pos 0))) e

-- altered symbols by their places
pub altered_from : (bs : List Burst) (p : ℕ) (f g : List ℤ) → length g ≡ length f → ((i : ℕ) → i < length f → get_or g i (pos 0) ≡ cond (in_bursts bs (p + i)) (neg_ℤ (get_or f i (pos 0))) (get_or f i (pos 0))) → g ≡ altered bs p f
altered_from bs p f g long each = ext_get_or (pos 0) g (altered bs p f) (long ∙ sym (altered_length bs p f)) (λ i h. each i (omega (arith, long)) ∙ sym (altered_at bs p f i (omega (arith, long))))

-- no burst, nothing altered
pub altered_none : (bs : List Burst) (p : ℕ) (f : List ℤ) → ((i : ℕ) → i < length f → in_bursts bs (p + i) ≡ false) → altered bs p f ≡ f
altered_none bs p f dark = sym (altered_from bs p f f refl (λ i h. ap (λ b. cond b (neg_ℤ (get_or f i (pos 0))) (get_or f i (pos 0))) (sym (dark i h))))

-- outside the bursts nothing is altered
pub altered_same : (bs : List Burst) (p : ℕ) (f : List ℤ) (i : ℕ) → i < length f → in_bursts bs (p + i) ≡ false → get_or (altered bs p f) i (pos 0) ≡ get_or f i (pos 0)
altered_same bs p f i h dark = altered_at bs p f i h ∙ ap (λ b. cond b (neg_ℤ (get_or f i (pos 0))) (get_or f i (pos 0))) dark

-- the symbol x of a segment, which stands as y in the copy so far, after one burst more
pub alter_more : (here rest all part : Bool) (x y z : ℤ) → part ≡ here → z ≡ cond part (neg_ℤ x) y → cond (cond here true rest) (neg_ℤ x) y ≡ cond all (neg_ℤ x) x → cond rest (neg_ℤ x) z ≡ cond all (neg_ℤ x) x
alter_more true true all part x y z e f g = g
alter_more true false all part x y z e f g = f ∙ ap (λ b. cond b (neg_ℤ x) y) e ∙ g
alter_more false true all part x y z e f g = g
alter_more false false all part x y z e f g = f ∙ ap (λ b. cond b (neg_ℤ x) y) e ∙ g

-- a put of an altered segment is answered as one of the segment
pub altered_answer : (s : State) (bs : List Burst) (p : ℕ) (f : List ℤ) → put_answer s (altered bs p f) ≡ put_answer s f
altered_answer s bs p f = let a = altered_length bs p f in let b = altered_levels bs p f in simp (a, b)

-- an accepted segment is long enough
pub put_long : (s : State) (f : List ℤ) → Ok tt ≡ put_answer s f → length f ≡ 832
put_long s f e = grind arith

-- what the lower line's answer to an altered segment is to the layer
pub layer_after : (s t : State) (bs : List Burst) (f : List ℤ) (r m : Result (Unit {0}) LineRefusal) (Q : LineRefusal → LineRefusal → Type 0) → MatchResult r (λ x. m ≡ Ok x) (λ e. IsErrAnd m (Q e)) → r ≡ put_answer s f →
    MatchResult r (λ _. Arrived s (altered bs (first_place s) f) t) (λ _. t ≡ s) → MatchResult m (λ _. Arrived (layered (in_bursts bs) s) f (layered (in_bursts bs) t)) (λ _. layered (in_bursts bs) t ≡ layered (in_bursts bs) s)
layer_after s t bs f (Ok x) m Q same e a =
    let long = put_long s f e in
    let b = layered_arrived (in_bursts bs) s t f (altered bs (first_place s) f) (λ i h dark. altered_same bs (first_place s) f i (omega arith) dark) a in
    subst (λ k. MatchResult k (λ _. Arrived (layered (in_bursts bs) s) f (layered (in_bursts bs) t)) (λ _. layered (in_bursts bs) t ≡ layered (in_bursts bs) s)) (sym same) b
layer_after s t bs f (Err x) (Ok y) Q same e a = absurd same
layer_after s t bs f (Err x) (Err y) Q same e a = ap (layered (in_bursts bs)) a

-- a put of a segment that the bursts do not alter, or that the lower line refuses
pub untouched : (s t : State) (bs : List Burst) (p : ℕ) (f : List ℤ) (r : Result (Unit {0}) LineRefusal) → r ≡ put_answer s f → (length f ≡ 832 → all_levels f ≡ true → altered bs p f ≡ f) → MatchResult r (λ _. Arrived s f t) (λ _. t ≡ s) → MatchResult r (λ _. Arrived s (altered bs p f) t) (λ _. t ≡ s)
untouched s t bs p f (Ok u) e same a = subst (λ (g : List ℤ). Arrived s g t) (sym (same (grind arith) (grind arith))) a
untouched s t bs p f (Err x) e same a = a
