use Rattle.std.proofs.Common.{◌≡◌, ℕ, zero, suc, ◌+◌, ◌-◌, ◌*◌, ◌<◌, List, [], ◌∷◌, get_or, sym, refl, ap, ◌∙◌, ap₂, one-mul, add-one, arith, rules}
use lib.Bits.{bit_xor}
use Rattle.galois.specs.Field.{gf_mul, gf_power}
use Rattle.correction.specs.Equations.{sum_on}
use Rattle.mender.proofs.roots.next_values.Goals as goal

-- one term more of a sum
sum_more : (q j : ℕ) (e : List ℕ) (sum x y : ℕ) → sum ≡ sum_on q j e → x ≡ get_or e j 0 → y ≡ gf_mul x (gf_power 2 (255 - q * j)) → bit_xor sum y ≡ sum_on q (j + 1) e
unfolding sum_on
sum_more q j e sum x y es ex ey = ap₂ bit_xor es (ey ∙ ap (λ (z : ℕ). gf_mul z (gf_power 2 (255 - q * j))) ex) ∙ ap (λ (n : ℕ). sum_on q n e) (sym (add-one j))

pub loop-j-init : goal.loop-j-init
unfolding sum_on
loop-j-init c = record { one = refl; two = refl; three = refl; four = refl; on = search rules; left = search rules }

pub loop-j-preserved : goal.loop-j-preserved
loop-j-preserved c =
    let e : List ℕ = c.args.e.now in
    let j : ℕ = c.loop-j.j in
    let x : ℕ = get_or c.loop-j.e j 0 in
    let I = c.loop-j.invariant in
    let same : x ≡ get_or e j 0 = I.left j (omega arith) in
    let single : 1 * j ≡ j = one-mul j in
    record {
      one = sum_more 1 j e c.loop-j.one x c.scaled-one.result I.one same (c.scaled-one.ensures ∙ ap (λ (k : ℕ). gf_mul x (gf_power 2 (255 - k))) (sym single));
      two = sum_more 2 j e c.loop-j.two x c.scaled-two.result I.two same c.scaled-two.ensures;
      three = sum_more 3 j e c.loop-j.three x c.scaled-three.result I.three same c.scaled-three.ensures;
      four = sum_more 4 j e c.loop-j.four x c.scaled-last.result I.four same c.scaled-last.ensures;
      on = search rules;
      left = search rules;
    }

-- the four entries of a list
four : (a b c d : ℕ) (f : ℕ → ℕ) → a ≡ f 1 → b ≡ f 2 → c ≡ f 3 → d ≡ f 4 → (q : ℕ) → q < 4 → get_or (a ∷ b ∷ c ∷ d ∷ []) q 0 ≡ f (q + 1)
four a b c d f ea eb ec ed zero h = ea
four a b c d f ea eb ec ed (suc zero) h = eb
four a b c d f ea eb ec ed (suc (suc zero)) h = ec
four a b c d f ea eb ec ed (suc (suc (suc zero))) h = ed
four a b c d f ea eb ec ed (suc (suc (suc (suc q)))) h = absurd (omega arith)
