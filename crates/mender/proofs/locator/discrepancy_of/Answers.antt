use Rattle.std.proofs.Common.{[], ◌∷◌, length, length-append, refl, rules}
use Rattle.std.proofs.lemmas.Slice.Zip.{zip_turn}
use Rattle.correction.specs.Equations.{discrepancy}
use Rattle.correction.proofs.Discrepancies.{discrepancy_more}
use Rattle.mender.proofs.locator.discrepancy_of.Goals as goal

pub loop-syndrome-init : goal.loop-syndrome-init
unfolding discrepancy
loop-syndrome-init c = refl

pub loop-syndrome-preserved : goal.loop-syndrome-preserved
loop-syndrome-preserved c =
    let s = c.args.s.now in
    let v = c.args.v.now in
    let done = c.loop-syndrome.yielded in
    let here =
    zip_turn s v done c.into_iter-syndrome-iterator.result c.loop-syndrome.syndrome-iterator c.next.new.self c.next.result (search rules) (search rules) c.loop-syndrome.yielded_by
    (c.in-Some.syndrome, c.in-Some.coefficient) c.in-Some.is c.next.ensures.steps in
    discrepancy_more v s (length done) _ c.loop-syndrome.sum c.in-Some.syndrome.now c.in-Some.coefficient.now c.mul-sum.result c.loop-syndrome.invariant (here.2 0) (here.3 0) c.mul-sum.ensures
    (length-append done ((c.in-Some.syndrome, c.in-Some.coefficient) ∷ []))
