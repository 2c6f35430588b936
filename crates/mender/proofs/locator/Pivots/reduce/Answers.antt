use Rattle.std.proofs.Common.{◌≡◌, ℕ, ◌+◌, ◌-◌, refl, ap, sym, ◌∙◌, arith}
use Rattle.galois.specs.Field.{gf_mul}
use Rattle.correction.specs.Equations.{discrepancy}
use Rattle.correction.proofs.Discrepancies.{discrepancy_at}
use Rattle.correction.proofs.Elimination.{reduced_kept, reduced_plus, reduced_pivot, reduced_all}
use Rattle.mender.proofs.locator.Pivots.reduce.Goals as goal
use Rattle.mender.proofs.locator.Pivots.reduce.Goals.{then-d-ne0+in-Some, else-d-ne0}

pub add_multiple-requires-clause-zero_behind : goal.add_multiple-requires-clause-zero_behind
add_multiple-requires-clause-zero_behind c = (c.loop-i.invariant.before.each c.loop-i.i c.in-Some.pivot c.in-Some.is).lower

pub returns-in-None : goal.returns-in-None
returns-in-None c =
    let v = c.loop-i.v in
    let i : ℕ = c.loop-i.i in
    let b : ℕ = c.inverted-inverse.result in
    let long = c.loop-i.invariant.long in
    let left : discrepancy (c.args.j + 1) v c.args.s.now i ≡ c.discrepancy_of-d.result = sym (c.discrepancy_of-d.ensures ∙ discrepancy_at v c.args.s.now (c.args.j + 1) (20 - i) i (omega arith) (omega arith)) in
    reduced_pivot c.loop-i.invariant c.requires.degree c.loop-i-test.true c.in-None.is (record { polynomial = v; inverse = b }) refl (ap (λ (x : ℕ). gf_mul x b) left ∙ c.inverted-inverse.ensures)

pub loop-i-preserved : goal.loop-i-preserved
loop-i-preserved c =
    let R = c.loop-i.invariant in
    let long = R.long in
    let i : ℕ = c.loop-i.i in
    let left : c.discrepancy_of-d.result ≡ discrepancy (c.args.j + 1) c.loop-i.v c.args.s.now i = c.discrepancy_of-d.ensures ∙ discrepancy_at c.loop-i.v c.args.s.now (c.args.j + 1) (20 - i) i (omega arith) (omega arith) in
    elim c.if-d-ne0.branch [
      | then-d-ne0+in-Some w ↦
          rw w.v-is
          (reduced_plus R c.requires.degree c.fits-s w.in-Some.pivot w.in-Some.is w.mul.result w.add_multiple.new.v (w.mul.ensures ∙ ap (λ (x : ℕ). gf_mul x w.in-Some.pivot.inverse) left) w.add_multiple.array_long w.add_multiple.ensures)
      | else-d-ne0 w ↦ rw w.v-is (reduced_kept R c.requires.degree (sym left ∙ w.if-d-ne0.false))
    ]

pub returns : goal.returns
returns c = reduced_all c.loop-i.invariant c.requires.degree c.loop-i-test.false
