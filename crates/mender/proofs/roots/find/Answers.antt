use Rattle.std.proofs.Common.{◌≡◌, ℕ, ◌-◌, ◌<◌, List, ◌++◌, get_or, take, sym, refl, ap, ◌∙◌, append-nil, arith, rules}
use Rattle.std.proofs.lemmas.List.{length-take}
use Rattle.galois.specs.Field.{gf_power}
use Rattle.moments.proofs.Moments as M
use Rattle.rows.proofs.Values.{bytes}
use Rattle.correction.specs.Polynomials.{polynomial, roots_of}
use Rattle.correction.proofs.Roots.{found_hit, found_miss, values_taken}
use Rattle.mender.proofs.roots.find.Goals as goal
use Rattle.mender.proofs.roots.find.Goals.{then-value-eq0, else-value-eq0}

pub push-requires : goal.push-requires
push-requires c =
    let n : ℕ = c.args.n in
    let i : ℕ = c.loop-i.i in
    let l : List ℕ = c.all_values-values.result in
    let L = c.args.locator.now in
    let few = L.few in
    let hi : i < n = omega (arith, length-take n l) in
    let there = values_taken (polynomial L.coefficients L.degree) n l i c.all_values-values.ensures hi in
    let room =
    (found_hit L.coefficients L.degree n i (get_or (take n l) i 0) hi there c.loop-i.at.items (gf_power 2 (n - 1 - i)) (omega arith) c.requires.places refl L.monic c.if-value-eq0.true c.loop-i.invariant).0 in
    (search rules, omega arith)

pub loop-i-preserved : goal.loop-i-preserved
loop-i-preserved c =
    let n : ℕ = c.args.n in
    let i : ℕ = c.loop-i.i in
    let l : List ℕ = c.all_values-values.result in
    let L = c.args.locator.now in
    let few = L.few in
    let at = c.loop-i.at.items in
    let y : ℕ = get_or (take n l) i 0 in
    let hi : i < n = omega (arith, length-take n l) in
    let there = values_taken (polynomial L.coefficients L.degree) n l i c.all_values-values.ensures hi in
    elim c.if-value-eq0.branch [
      | then-value-eq0 w ↦
          rw (w.at-is, w.push.ensures.items)
          (found_hit L.coefficients L.degree n i y hi there at w.power.result (omega arith) c.requires.places w.power.ensures L.monic w.if-value-eq0.true c.loop-i.invariant).1
      | else-value-eq0 w ↦ rw w.at-is (found_miss L.coefficients L.degree n i y hi there at w.if-value-eq0.false (omega arith) c.loop-i.invariant)
    ]

pub returns-clause-are : goal.returns-clause-are
unfolding M.roots
returns-clause-are c =
    let cs = polynomial c.args.locator.now.coefficients c.args.locator.now.degree in
    let at = c.loop-i.at.items in
    let e : c.args.n - c.loop-i.i ≡ 0 = omega (arith, length-take c.args.n c.all_values-values.result) in
    sym (append-nil (bytes at)) ∙ ap (λ (k : ℕ). bytes at ++ roots_of cs k) (sym e) ∙ c.loop-i.invariant.are
