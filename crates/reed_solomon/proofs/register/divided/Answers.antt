use Rattle.std.proofs.Common.{◌≡◌, ℕ, zero, suc, ◌+◌, ◌*◌, ◌/◌, ◌<◌, List, [], length, get_or, take, drop, sym, refl, ap, ap₂, ◌∙◌, arith, lit<}
use Rattle.std.specs.Simd.{first_chunks}
use Rattle.std.proofs.lemmas.List.{take_more, take_all, get_or-take, get_or-drop}
use Rattle.reed_solomon.specs.Held.{held, digits, step}
use Rattle.rows.proofs.Steps.{parity_more}
use Rattle.rows.specs.Parity.{parity, division}
use Rattle.reed_solomon.proofs.register.divided.Goals as goal

-- the parity of one byte more
parity_next : (row : List ℕ) (i n : ℕ) → i < length row → n ≡ i + 1 → parity 20 (take n row) ≡ step (parity 20 (take i row)) (get_or row i 0)
parity_next row i n h e = ap (λ (k : ℕ). parity 20 (take k row)) e ∙ ap (parity 20) (take_more row i 0 h) ∙ parity_more 20 (take i row) (get_or row i 0)

-- a byte of a pair
in_pair : (n : ℕ) (row : List ℕ) (i j k : ℕ) → i < n → j < 2 → 2 * i + j ≡ k → get_or (get_or (first_chunks 2 n row) i []) j 0 ≡ get_or row k 0
in_pair zero row i j k h l e = absurd (omega arith)
in_pair (suc n) row zero j k h l e = let f : j ≡ k = omega arith in get_or-take 2 row j 0 l ∙ ap (λ (m : ℕ). get_or row m 0) f
in_pair (suc n) row (suc i) j k h l e =
    let f : 2 + (2 * i + j) ≡ k = omega arith in
    in_pair n (drop 2 row) i j (2 * i + j) (omega arith) l refl ∙ get_or-drop 2 row (2 * i + j) 0 ∙ ap (λ (m : ℕ). get_or row m 0) f

pub loop-a-init : goal.loop-a-init
unfolding held digits parity division
loop-a-init c = refl

pub loop-a-preserved : goal.loop-a-preserved
loop-a-preserved c =
    let row : List ℕ = c.args.bytes.now in
    let i : ℕ = 2 * c.loop-a.a-index in
    let n : ℕ = length row / 2 in
    let pairs : c.as_chunks.result.0.now ≡ first_chunks 2 n row = c.as_chunks.ensures.front in
    let a = ap (λ (ps : List (List ℕ)). get_or (get_or ps c.loop-a.a-index []) 0 0) pairs ∙ in_pair n row c.loop-a.a-index 0 i (omega arith) (lit< tt) (omega arith) in
    let b = ap (λ (ps : List (List ℕ)). get_or (get_or ps c.loop-a.a-index []) 1 0) pairs ∙ in_pair n row c.loop-a.a-index 1 (i + 1) (omega arith) (lit< tt) refl in
    c.roll_two-left.ensures ∙ ap₂ step (ap₂ step c.loop-a.invariant a) b
    ∙ sym (parity_next row (i + 1) (2 * (c.loop-a.a-index + 1)) (omega arith) (omega arith) ∙ ap (λ (r : List ℕ). step r (get_or row (i + 1) 0)) (parity_next row i (i + 1) (omega arith) refl))

pub returns-in-len1 : goal.returns-in-len1
returns-in-len1 c =
    let row : List ℕ = c.args.bytes.now in
    let m : ℕ = length row / 2 * 2 in
    let even : 2 * c.loop-a.a-index ≡ m = omega arith in
    let at : m + 0 ≡ m = omega arith in
    let b = ap (λ (bytes : List ℕ). get_or bytes 0 0) c.as_chunks.ensures.back ∙ get_or-drop m row 0 0 ∙ ap (λ (k : ℕ). get_or row k 0) at in
    c.roll.ensures ∙ ap₂ step (c.loop-a.invariant ∙ ap (λ (k : ℕ). parity 20 (take k row)) even) b
    ∙ sym (parity_next row m (length row) (omega arith) (omega arith)) ∙ ap (parity 20) (take_all (length row) row (omega arith))
