use Rattle.std.proofs.Common.{◌≡◌, ℕ, ◌+◌, ◌-◌, ◌*◌, ◌≤◌, List, length, subst, arith}
use Rattle.std.proofs.Math.Nat.{mul-le-mul}
use Rattle.correction.proofs.Roots.{Terms, terms_start, terms_on, value_on, values_more}
use Rattle.mender.proofs.roots.all_values.Goals as goal

pub loop-block-init : goal.loop-block-init
loop-block-init c =
    let L = c.args.locator.now in
    let few = L.few in
    record {
      values = λ k h. absurd (omega arith);
      terms = λ h. let z : c.args.n - 0 ≡ c.args.n = omega arith in rw z (terms_start L.coefficients c.terms-e.result L.degree c.args.n (λ j q. c.terms-e.ensures j (omega arith)));
    }

pub loop-block-preserved : goal.loop-block-preserved
loop-block-preserved c =
    let L = c.args.locator.now in
    let few = L.few in
    let n : ℕ = c.args.n in
    let i : ℕ = 4 * c.loop-block.block in
    let e : List ℕ = c.loop-block.e in
    let I = c.loop-block.invariant in
    let r : List ℕ = c.copy_from_slice.new.self in
    let four : length r ≡ 4 = omega (arith, c.copy_from_slice.ensures.len) in
    record {
      values = λ k h. values_more L.coefficients L.degree n i (i + 4 - i) c.loop-block.all r (omega arith) I.values
          (λ q hq. rw c.copy_from_slice.ensures.after (value_on L.coefficients L.degree n i q e _ (omega arith)
          (λ j b. let m : (q + 1) * j ≤ 4 * 10 = mul-le-mul {n₂ = 4} {m₂ = 10} (omega arith) (omega arith) in omega arith) I.terms (c.next_values.ensures.sums q (omega arith)))) k (omega arith);
      terms = λ h. let m : ℕ = n - 4 * (c.loop-block.block + 1) in
          let z : n - i ≡ m + 4 = omega arith in
          terms_on L.coefficients e c.next_values.new.e L.degree 4 m (λ j q. omega arith) (subst (λ (x : ℕ). Terms L.coefficients L.degree x e) z (I.terms (omega arith))) c.next_values.ensures.are;
    }
