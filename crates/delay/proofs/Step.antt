-- One element through the ring: what leaves, and how the ring stands after it.
use Rattle.std.proofs.Common.{◌≡◌, ℕ, ◌+◌, ◌*◌, ◌/◌, ◌%◌, ◌<◌, ◌≤◌, ◌≢◌, List, [], ◌∷◌, ◌++◌, length, get_or, set, Some, None, Option, sym, ap, ◌∙◌, subst, mod-lt, mul-pos, mul-zero, mul-one, arith}
use native.Mathlib.Nat.{add-div_right, add-mod_right, mod-add-mod}
use Rattle.std.proofs.lemmas.List.{length_push, get_or_read, get_or-set_same, get_or-set_other}
use Rattle.delay.specs.Ring.{delayed, cell, Apart, Ring, Layout, Place, Sound, Stands, Visited, Took}
use Rattle.delay.proofs.Delayed.{delayed_more, delayed_last}
use Rattle.delay.proofs.Cells.{same_branch, cells_apart, last_cell}

module _ {X : Type 0} (z : X) (b : ℕ) (S L : ℕ → ℕ) (p : 0 < b) (apart : Apart b S L) (h : List X) (x : X)
    (branch : ℕ) (slots : List ℕ) (cells : List X) (long : b ≤ length slots) (before : Ring z h b S L branch slots cells) where
  -- The slot of a branch whose turn comes before its own next one stays.
  other : (i : ℕ) → length h < i → i < length h + b → i % b ≢ length h % b
  other i l m e = let w = same_branch b i (length h) 1 p e l (omega (arith, mul-one b)) in omega arith

  -- The next branch.
  next_branch : (branch + 1) % b ≡ length (h ++ x ∷ []) % b
  next_branch = let e = before.branch_is in grind (arith, mod-add-mod (length h) b 1, length_push h x)

  -- A branch with no cells.
  pub step_none : L branch ≡ 0 → (x ≡ delayed z b L (h ++ x ∷ []) (length h)) × Ring z (h ++ x ∷ []) b S L ((branch + 1) % b) slots cells
  step_none none =
      let n = length_push h x in
      let e : L (length h % b) ≡ 0 = subst (λ (j : ℕ). L j ≡ 0) before.branch_is none in (
        sym (delayed_last z b L h x (length h) (rw e (omega (arith, mul-zero b)))),
        record {
          branch_is = next_branch;
          slot_is = λ i l m q. grind (arith, before.slot_is i, add-mod_right (length h) b);
          held = λ i a c. grind (arith, last_cell b S L p (length h) i, before.held i, delayed_more z b L h (x ∷ []) i, mul-zero b);
        },
      )

  module _ (some : 0 < L branch) (within : S branch + L branch ≤ length cells) where
    -- It has cells.
    here_some : 0 < L (length h % b)
    here_some = subst (λ (j : ℕ). 0 < L j) before.branch_is some

    -- The slot of the branch whose turn it is.
    slot_now : get_or slots branch 0 ≡ length h / b % L branch
    slot_now = let e = before.branch_is in grind (arith, before.slot_is (length h), here_some)

    -- Its cell is the one in which the next output waits.
    here : S branch + get_or slots branch 0 ≡ cell b S L (length h)
    unfolding cell
    here = let e = before.branch_is in let f = slot_now in grind arith

    -- That cell is one of the memory's.
    here_within : cell b S L (length h) < length cells
    here_within = let e = slot_now in let f = here in let m = mod-lt (length h / b) some in omega arith

    -- What leaves.
    leaves : get_or cells (S branch + get_or slots branch 0) z ≡ delayed z b L (h ++ x ∷ []) (length h)
    leaves =
        let w : 0 < b * L (length h % b) = mul-pos p here_some in
        let e = here in
        grind (arith, before.held (length h), delayed_more z b L h (x ∷ []) (length h))

    -- The branch's slot after this turn is that of its next turn.
    slot_next : (get_or slots branch 0 + 1) % L branch ≡ (length h / b + 1) % L (length h % b)
    slot_next = let e = before.branch_is in let f = slot_now in grind (arith, mod-add-mod (length h / b) (L branch) 1)

    -- The slots and the cells after it.
    slots_after : (i : ℕ) → length h + 1 ≤ i → i < length h + 1 + b → 0 < L (i % b) → get_or (set slots branch ((get_or slots branch 0 + 1) % L branch)) (i % b) 0 ≡ i / b % L (i % b)
    slots_after i l m q =
        let next : ℕ = (get_or slots branch 0 + 1) % L branch in
        let nb = mod-lt (length h) p in
        let w = slot_next in
        let e = before.branch_is in
        grind (arith, other i, before.slot_is i, get_or-set_other slots branch (i % b) next 0, get_or-set_same slots branch next 0, add-mod_right (length h) b, add-div_right (length h) p)

    held_after : (i : ℕ) → length h + 1 ≤ i → i < length h + 1 + b * L (i % b) → get_or (set cells (cell b S L (length h)) x) (cell b S L i) z ≡ delayed z b L (h ++ x ∷ []) i
    held_after i a c =
        let w = here_within in
        let n : ℕ = cell b S L (length h) in
        let one = last_cell b S L p (length h) i in
        let two : L (i % b) ≢ 0 → i ≢ length h + b * L (i % b) → cell b S L i ≢ n = λ f m e. cells_apart b S L p apart (length h) i (omega arith) (omega arith) here_some (omega arith) e in
        grind (arith, one, two, before.held i, get_or-set_same cells n x z, get_or-set_other cells n (cell b S L i) x z, delayed_last z b L h x i, delayed_more z b L h (x ∷ []) i, mul-zero b)

    -- A branch with cells.
    pub step_some : (get_or cells (S branch + get_or slots branch 0) z ≡ delayed z b L (h ++ x ∷ []) (length h))
        × Ring z (h ++ x ∷ []) b S L ((branch + 1) % b) (set slots branch ((get_or slots branch 0 + 1) % L branch)) (set cells (S branch + get_or slots branch 0) x)
    step_some =
        let n = length_push h x in (
          leaves,
          record {
            branch_is = next_branch;
            slot_is = λ i l m q. slots_after i (omega arith) (omega arith) q;
            held = λ i a c. ap (λ (k : ℕ). get_or (set cells k x) (cell b S L i) z) here ∙ held_after i (omega arith) (omega arith);
          },
        )

-- One element at a turn that falls on no cell, and at one that falls on a cell.
module _ {X : Type 0} (l : Layout) (sound : Sound l) (p : Place) (stands : Stands l p) (cell : Option ℕ) (p' : Place) (visited : Visited l p cell p') (cells : List X) (x : X) where
  pub took_none : cell ≡ None → Took l p cells x x p' cells
  took_none none =
      let e : l.size p.branch ≡ 0 = grind (arith, visited.in_slot) in
      record {
        run = λ z h before.
            let s = step_none z l.branches l.first l.size sound.some sound.apart h x p.branch p.slots cells stands.long before e in
            (s.0, rw (visited.turn_goes_on, (visited.at_once e).1) s.1);
      }

  pub took_some : (i : ℕ) (r : X) → cell ≡ Some i → r ≡ get_or cells i r → l.cells ≤ length cells → Took l p cells x r p' (set cells i x)
  took_some i r some was whole =
      let e : 0 < l.size p.branch = grind (arith, visited.at_once) in
      let v = visited.in_slot e in
      let f : i ≡ l.first p.branch + get_or p.slots p.branch 0 = cc in
      let w = sound.within p.branch stands.inside in
      let u = stands.fit p.branch stands.inside e in
      record {
        run = λ z h before.
            let s = step_some z l.branches l.first l.size sound.some sound.apart h x p.branch p.slots cells stands.long before e (omega arith) in
            (get_or_read cells i r (omega arith) was z ∙ (ap (λ (j : ℕ). get_or cells j z) f ∙ s.0), rw (visited.turn_goes_on, v.1, f) s.1);
      }
