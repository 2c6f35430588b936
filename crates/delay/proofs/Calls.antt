-- What the calls of a ring leave, from what one turn does.
use Rattle.std.proofs.Common.{◌≡◌, ℕ, ◌+◌, ◌%◌, ◌<◌, ◌≤◌, ◌≢◌, List, [], ◌∷◌, ◌++◌, length, get_or, take, set, replicate, sym, ◌∙◌, append_assoc, mod-eq_of_lt, arith}
use native.Mathlib.Nat.{div-eq_of_lt}
use Rattle.std.proofs.lemmas.List.{take_more, take_more_set, length-append, get_or_append_left, get_or_push, length_push, get_or-set_other, get_or-replicate, get_or_past, length-replicate, length-set}
use Rattle.delay.specs.Ring.{Ring, Layout, Place, Took, Ran, cell}
use Rattle.delay.specs.Branches.{Fit, sizes, firsts}
use Rattle.delay.specs.State.{Cleared, Fresh, PlainCleared}
use Rattle.delay.specs.Laws.{ClearAt, PlainClearAt}
use Rattle.delay.specs.declared.branches.Shape.{Shape}
use Rattle.delay.specs.declared.memory.Delay.{Delay}
use Rattle.delay.specs.declared.plain.PlainDelay.{PlainDelay}
use Rattle.delay.proofs.Delayed.{delayed_empty, delayed_more}

module _ {X : Type 0} (l : Layout) (p : Place) (cells : List X) where
  -- The elements xs, and then one more.
  ran_more : (xs ys : List X) (x r : X) (p₁ : Place) (c₁ : List X) (p₂ : Place) (c₂ : List X)
      → Ran l p cells xs ys p₁ c₁ → Took l p₁ c₁ x r p₂ c₂ → Ran l p cells (xs ++ x ∷ []) (ys ++ r ∷ []) p₂ c₂
  ran_more xs ys x r p₁ c₁ p₂ c₂ ran took =
      let nx = length_push xs x in
      let ny = length_push ys r in
      let same = ran.same_length in
      record {
        same_length = omega arith;
        run = λ z h ring.
            let q = ran.run z h ring in
            let u = took.run z (h ++ xs) q.1 in
            let n = length-append h xs in
            let a = append_assoc h xs (x ∷ []) in
            let left = delayed_more z l.branches l.size (h ++ xs) (x ∷ []) in (
              (λ k m. grind (arith, a, q.0 k, u.0, left (length h + k), get_or_append_left ys (r ∷ []) z k, get_or_push ys r z k)),
              rw (← a) u.1,
            );
      }

  -- How far the elements xs have come: the first i of ys have left.
  pub record Running (xs : List X) (i : ℕ) (p' : Place) (cells' ys : List X) : Type 0 where
    pub same_length : length ys ≡ length xs
    pub rest : (k : ℕ) (z : X) → i ≤ k → get_or ys k z ≡ get_or xs k z
    pub ran : Ran l p cells (take i xs) (take i ys) p' cells'

  -- One element more.
  pub running_more : (xs : List X) (i : ℕ) (p₁ : Place) (c₁ ys : List X) (x r : X) (p₂ : Place) (c₂ : List X)
      → i < length ys → ((z : X) → x ≡ get_or ys i z) → Took l p₁ c₁ x r p₂ c₂ → Running xs i p₁ c₁ ys → Running xs (i + 1) p₂ c₂ (set ys i r)
  running_more xs i p₁ c₁ ys x r p₂ c₂ q is took f =
      let n = f.same_length in
      let a : take (i + 1) xs ≡ take i xs ++ x ∷ [] = grind (arith, take_more xs i x, is x, f.rest i x) in
      let b = take_more_set ys i r q in
      record {
        same_length = length-set ys i r ∙ n;
        rest = λ k z m. let o : k ≢ i = omega arith in get_or-set_other ys i k r z o ∙ f.rest k z (omega arith);
        ran = rw (a, b) (ran_more (take i xs) (take i ys) x r p₁ c₁ p₂ c₂ f.ran took);
      }

-- A cell of a list that is z all over.
get_or_clear : {X : Type 0} (z : X) (n k : ℕ) → get_or (replicate n z) k z ≡ z
get_or_clear z n k = grind (arith, get_or-replicate n k z z, get_or_past (replicate n z) k z, length-replicate n z)

-- Nothing has come into a ring whose cells are all z and whose branches are at their first slots.
pub ring_clear : {X : Type 0} (z : X) (b : ℕ) (S L : ℕ → ℕ) (slots : List ℕ) (n : ℕ) → 0 < b → ((k : ℕ) → get_or slots k 0 ≡ 0) → Ring z [] b S L 0 slots (replicate n z)
ring_clear z b S L slots n p e = record {
  branch_is = sym (mod-eq_of_lt p);
  slot_is = λ i a c q. grind (arith, e (i % b), div-eq_of_lt {n = i} {m = b}, mod-eq_of_lt {n = 0} {m = L (i % b)});
  held = λ i a c. get_or_clear z n (cell b S L i) ∙ sym (delayed_empty z b L i);
}

-- So of the two memories.
pub clear_law : (X : Type 0) (z : X) → ClearAt X z
clear_law X z d n f = rw (f.branch, f.slots) (ring_clear z d.shape.branches (firsts d.shape) (sizes d.shape) (replicate 255 0) n d.shape.some (λ k. get_or_clear 0 255 k))

pub plain_clear_law : (X : Type 0) (z : X) → PlainClearAt X z
plain_clear_law X z d n f = rw f (ring_clear z 1 (λ _. 0) (λ _. d.size) (0 ∷ []) n (omega arith) (λ k. get_or_clear 0 1 k))

-- The first slots fit.
pub fit_first : (s : Shape) → Fit s (replicate 255 0)
fit_first s j l some = rw (get_or_clear {X = ℕ} 0 255 j) some

-- A memory that starts anew.
pub cleared : {X : Type 0} (z : X) (d d' : Delay) (cells cells' : List X) → d'.shape ≡ d.shape → Fresh d' → cells' ≡ replicate (length cells) z → Cleared z d cells d' cells'
cleared {X} z d d' cells cells' same fresh e = record { same_shape = same; clear = e; fresh = fresh; came = rw e (clear_law X z d' (length cells) fresh) }

-- A plain delay that starts anew.
pub plain_cleared : {X : Type 0} (z : X) (d d' : PlainDelay) (cells cells' : List X) → d'.size ≡ d.size → d'.slot ≡ 0 → cells' ≡ replicate (length cells) z → PlainCleared z d cells d' cells'
plain_cleared {X} z d d' cells cells' same fresh e = record { same_size = same; clear = e; fresh = fresh; came = rw e (plain_clear_law X z d' (length cells) fresh) }
