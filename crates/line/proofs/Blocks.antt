-- What a write of one block leaves in a memory.
use Rattle.std.proofs.Common.{◌≡◌, ℕ, suc, ◌+◌, ◌-◌, ◌*◌, ◌<◌, ◌≤◌, ◌⊎◌, List, length, take, drop, sym, ap, ◌∙◌, inl, inr, ⊎_elim, mul-le-mul_left, mul-suc, arith}
use borrow.Rule.Slice.PartMut.{put_mid}
use Rattle.std.proofs.lemmas.Slice.{between_is, take-put_mid_below, drop-put_mid, between-put_mid}
use Rattle.std.proofs.lemmas.Bool.{cases_lt}
use Rattle.line.specs.Slots.{block}

-- the block that was written
pub block_here : {X : Type 0} (w at k : ℕ) (memory part : List X) → k ≡ w → length part ≡ w → w * at + w ≤ length memory → block w (put_mid (w * at) k memory part) at ≡ part
block_here w at k memory part e long fits = between-put_mid (w * at) k memory part (w * at + w) (omega arith) (omega arith)

apart : (i at : ℕ) → (i ≡ at → ⊥) → (i < at) ⊎ (at < i)
apart i at ne = ⊎_elim (λ (h : i < at). inl h) (λ (h : at ≤ i). inr (omega (arith, ne))) (cases_lt i at)

before : (w i k : ℕ) → i < k → w * i + w ≤ w * k
before w i k h = let m : w * suc i ≤ w * k = mul-le-mul_left w h in let s = mul-suc w i in omega arith

-- the other blocks
pub block_other : {X : Type 0} (w at k : ℕ) (memory part : List X) (i : ℕ) → k ≡ w → length part ≡ w → w * at + w ≤ length memory → (i ≡ at → ⊥) → block w (put_mid (w * at) k memory part) i ≡ block w memory i
block_other w at k memory part i e long fits ne =
    ⊎_elim
    (λ (h : i < at).
    let b = before w i at h in
    between_is (put_mid (w * at) k memory part) (w * i) (w * i + w) ∙
    ap (drop (w * i)) (take-put_mid_below (w * at) k memory part (w * i + w) b (omega arith)) ∙
    sym (between_is memory (w * i) (w * i + w)))
    (λ (h : at < i).
    let b = before w at i h in
    ap (take (w * i + w - w * i)) (drop-put_mid (w * at) k memory part (w * i) (omega arith) (omega arith) (omega arith)))
    (apart i at ne)

-- a block lies in a memory of that many blocks
pub block_fits : (w k room n : ℕ) → n ≡ w * room → k < room → w * k + w ≤ n
block_fits w k room n e h = let b = before w k room h in omega arith
