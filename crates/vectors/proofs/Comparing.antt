-- Comparing the lines of a text one by one: what is counted so far.
use Rattle.std.proofs.Common.{◌≡◌, ℕ, ◌+◌, ◌-◌, ◌<◌, ◌≤◌, Bool, true, false, not, cond, List, [], ◌∷◌, ◌++◌, length, take, count_by, map, refl, sym, ap, ◌∙◌, arith, Ok, Err, Some, Result, MatchBool, MatchResult, IsErrAnd, subst, get_or, slice_get}
use Rattle.std.specs.Fn.{Mut, Called}
use Rattle.std.specs.Str.Lines.{lines}
use Rattle.std.specs.List.{FoldsTo, enumerate_from}
use Rattle.std.proofs.lemmas.List.{map-append, length-map, take_all}
use Rattle.std.proofs.lemmas.List.Sums.{sum_by-cons, count_by-le-length}
use Rattle.std.proofs.lemmas.List.FromFn.{length-enumerate_from, get_or-enumerate_from}
use Rattle.std.specs.Iterator.Adapters.{enumerate_source, enumerate_count, enumerate_steps}
use Rattle.std.specs.Str.Iter.{lines_rest, lines_steps}
use Rattle.std.proofs.lemmas.Iterator.{YieldsList}
use Rattle.std.proofs.lemmas.Iterator.Splits.{YieldsList-from_lines}
use Rattle.std.proofs.lemmas.Iterator.Consumers.{YieldsList-from_enumerate}
use Rattle.std.proofs.lemmas.Fn.{FoldsTo-push}
use Rattle.std.proofs.lemmas.Option.{slice_get_read}
use Rattle.vectors.specs.Tally.{counted}
use Rattle.vectors.specs.Lines.{is_heading, compared, Asked, Compares, ComparesFirst, StopsAt}
use denote.Ref.{Bor}

-- a numbered line as it is read
abbrev pub line_of : ℕ × Bor (List ℕ) → ℕ × List ℕ
line_of x = (x.0, x.1.now)

-- the lines of a text with their numbers, one by one
pub numbered : {s : _} (text : List ℕ) → lines_rest (enumerate_source s) ≡ text → enumerate_count s ≡ 0 → YieldsList {B = ℕ × List ℕ} (enumerate_steps lines_steps) line_of s (enumerate_from 0 (lines text))
numbered text e f = YieldsList-from_enumerate (YieldsList-from_lines text e) f

-- how many lines are counted
abbrev pub all_of : ℕ × ℕ → ℕ
all_of counts = counts.0 + counts.1

-- whether a numbered line is no heading
abbrev pub is_compared : ℕ × List ℕ → Bool
is_compared line = not (is_heading line.1)

-- the numbers of lines do not alter how many are compared
pub count_numbered : (n : ℕ) (xs : List (List ℕ)) → count_by is_compared (enumerate_from n xs) ≡ count_by (λ line. not (is_heading line)) xs
count_numbered n [] = refl
count_numbered n (x ∷ xs) =
    sum_by-cons (λ (y : ℕ × List ℕ). cond (is_compared y) 1 0) (n, x) (enumerate_from (n + 1) xs)
    ∙ ap (λ k. cond (not (is_heading x)) 1 0 + k) (count_numbered (n + 1) xs)
    ∙ sym (sum_by-cons (λ (y : List ℕ). cond (not (is_heading y)) 1 0) x xs)

module _ {F E : Type 0} (g : Mut F (ℕ × (Bor (List ℕ) × Unit {0})) (Result Bool E)) where
  -- the lines that have been read are compared, from the call f on
  abbrev pub ComparesRead : F → List (ℕ × Bor (List ℕ)) → F × (ℕ × ℕ) → Type 0
  ComparesRead f read p = FoldsTo (Compares g) (f, (0, 0)) (map line_of read) p

  -- one line more
  pub one_more : (f : F) (read : List (ℕ × Bor (List ℕ))) (p q : F × (ℕ × ℕ)) (x : ℕ × Bor (List ℕ)) → ComparesRead f read p → Compares g p (line_of x) q → ComparesRead f (read ++ (x ∷ [])) q
  one_more f read p q x h k = rw (map-append line_of read (x ∷ [])) (FoldsTo-push (Compares g) (f, (0, 0)) (map line_of read) p (line_of x) q h k)

  counts_at : (b : Bool) (p q : F × (ℕ × ℕ)) (x : ℕ × List ℕ) → MatchBool b (q ≡ p) ((a : Bool) × Asked g p.0 (x.0 + 1) x.1 (Ok a) q.0 × (q.1 ≡ counted p.1 a)) → all_of q.1 ≡ all_of p.1 + cond (not b) 1 0
  counts_at true p q x h = ap (λ (r : F × (ℕ × ℕ)). all_of r.1) h ∙ omega arith
  counts_at false p q x (true, _, e) = ap all_of e ∙ omega arith
  counts_at false p q x (false, _, e) = ap all_of e ∙ omega arith

  -- each line that is no heading is counted once
  pub counts : (p q : F × (ℕ × ℕ)) (xs : List (ℕ × List ℕ)) → FoldsTo (Compares g) p xs q → all_of q.1 ≡ all_of p.1 + count_by is_compared xs
  counts p q [] h = ap (λ (r : F × (ℕ × ℕ)). all_of r.1) (sym h) ∙ omega arith
  counts p q (x ∷ xs) (j, s, h) =
      let a = counts_at (is_heading x.1) p j x s in
      let b = counts j q xs h in
      let c = sum_by-cons (λ (y : ℕ × List ℕ). cond (is_compared y) 1 0) x xs in
      omega arith

  -- no more lines are counted than have been read
  pub few : (f : F) (read : List (ℕ × Bor (List ℕ))) (p : F × (ℕ × ℕ)) → ComparesRead f read p → all_of p.1 ≤ length read
  few f read p h =
      let a = counts (f, (0, 0)) p (map line_of read) h in
      let b = count_by-le-length is_compared (map line_of read) in
      let c = length-map read line_of in
      omega arith

  -- all lines have been read
  pub all_read : (f : F) (text : List ℕ) (read : List (ℕ × Bor (List ℕ))) (p : F × (ℕ × ℕ)) → map line_of read ≡ enumerate_from 0 (lines text)
      → ComparesRead f read p → ComparesFirst g f text (length (lines text)) p
  all_read f text read p e h =
      let l = length-enumerate_from 0 (lines text) in
      subst (λ (xs : List (ℕ × List ℕ)). FoldsTo (Compares g) (f, (0, 0)) xs p) (e ∙ sym (take_all (length (lines text)) (enumerate_from 0 (lines text)) (omega arith))) h

  -- and so each line that is no heading is counted
  pub all_counted : (f : F) (text : List ℕ) (read : List (ℕ × Bor (List ℕ))) (p : F × (ℕ × ℕ)) → map line_of read ≡ enumerate_from 0 (lines text)
      → ComparesRead f read p → all_of p.1 ≡ compared text
  all_counted f text read p e h =
      counts (f, (0, 0)) p (map line_of read) h ∙ ap (λ (xs : List (ℕ × List ℕ)). 0 + 0 + count_by is_compared xs) e
      ∙ ap (λ k. 0 + 0 + k) (count_numbered 0 (lines text)) ∙ omega arith

  -- the call fails at the line that is read next
  pub stops : (f : F) (text : List ℕ) (read : List (ℕ × Bor (List ℕ))) (p : F × (ℕ × ℕ)) (x : ℕ × Bor (List ℕ)) (why : E) (f' : F)
      → map line_of read ≡ take (length read) (enumerate_from 0 (lines text))
      → (x.0 ≡ length read) × (length read < length (lines text)) × (slice_get (lines text) (length read) ≡ Some x.1.now)
      → ComparesRead f read p → is_heading x.1.now ≡ false → Called g p.0 (x.0 + 1, (x.1, tt)) (Err why) f' → StopsAt g f text (x.0 + 1) why
  stops f text read p x why f' e (n, l, s) h k m =
      let back : x.0 + 1 - 1 ≡ length read = omega arith in (
        omega arith,
        omega arith,
        p,
        f',
        x.1.now,
        subst (λ (i : ℕ). ComparesFirst g f text i p) (sym back) (subst (λ (xs : List (ℕ × List ℕ)). FoldsTo (Compares g) (f, (0, 0)) xs p) e h),
        subst (λ (i : ℕ). slice_get (lines text) i ≡ Some x.1.now) (sym back) s,
        k,
        (x.1, refl, m),
      )

  -- a heading changes nothing
  pub at_heading : (p : F × (ℕ × ℕ)) (x : ℕ × List ℕ) → is_heading x.1 ≡ true → Compares g p x p
  at_heading p x e = subst (λ (b : Bool). MatchBool b (p ≡ p) ((a : Bool) × Asked g p.0 (x.0 + 1) x.1 (Ok a) p.0 × (p.1 ≡ counted p.1 a))) (sym e) refl

  -- another line is counted by what the call answers
  pub at_line : (p q : F × (ℕ × ℕ)) (x : ℕ × List ℕ) (a : Bool) → is_heading x.1 ≡ false → Asked g p.0 (x.0 + 1) x.1 (Ok a) q.0 → q.1 ≡ counted p.1 a → Compares g p x q
  at_line p q x a e h k =
      subst (λ (b : Bool). MatchBool b (q ≡ p) ((a : Bool) × Asked g p.0 (x.0 + 1) x.1 (Ok a) q.0 × (q.1 ≡ counted p.1 a))) (sym e) (a, h, k)

-- line k of a text, and its number
pub turn_at : (xs : List (List ℕ)) (k : ℕ) (x : ℕ × List ℕ) → (k < length (enumerate_from 0 xs)) × (x ≡ get_or (enumerate_from 0 xs) k x)
    → (x.0 ≡ k) × (k < length xs) × (slice_get xs k ≡ Some x.1)
turn_at xs k x (h, e) =
    let l = length-enumerate_from 0 xs in
    let u : k < length xs = omega arith in
    let v = e ∙ get_or-enumerate_from 0 xs k x u in
    let w : x.1 ≡ get_or xs k x.1 = ap (λ (y : ℕ × List ℕ). y.1) v in
    (ap (λ (y : ℕ × List ℕ). y.0) v ∙ omega arith, u, slice_get_read xs (length xs) k x.1 refl u w)

-- what `map_err` passes on
pub ok_before : {T E D : Type 0} (r : Result T E) (s : Result T D) (P : E → D → Type 0) (x : T) → MatchResult r (λ y. s ≡ Ok y) (λ e. IsErrAnd s (P e)) → s ≡ Ok x → r ≡ Ok x
ok_before (Ok y) s P x h e = ap Ok (cc (sym h ∙ e))
ok_before (Err y) (Ok z) P x h e = absurd h
ok_before (Err y) (Err z) P x h e = cc

-- the error that `map_err` was given
pub err_before : {T E D : Type 0} (r : Result T E) (s : Result T D) (P : E → D → Type 0) (d : D) → MatchResult r (λ y. s ≡ Ok y) (λ e. IsErrAnd s (P e)) → s ≡ Err d → (e : E) × (r ≡ Err e) × P e d
err_before (Ok y) s P d h e = cc
err_before (Err y) (Ok z) P d h e = absurd h
err_before (Err y) (Err z) P d h e = (y, refl, subst (P y) (cc) h)
