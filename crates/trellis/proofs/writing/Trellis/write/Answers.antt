use Rattle.std.proofs.Common.{◌≡◌, length, ◌≢◌, arith, rules}
use Rattle.trellis.proofs.Write.{write_none, write_more, write_all}
use Rattle.trellis.proofs.writing.Trellis.write.Goals as goal

pub returns-in_default-as_mut_array-clause-answer : goal.returns-in_default-as_mut_array-clause-answer
returns-in_default-as_mut_array-clause-answer c =
    let n : length c.args.out.now ≢ 828 = search rules in
    let l : length c.args.quad.now ≡ 828 = search rules in
    search rules

pub loop-place-init : goal.loop-place-init
loop-place-init c = record { whole = search rules; some = write_none _ _ _ _ }

pub loop-place-preserved : goal.loop-place-preserved
loop-place-preserved c = record { whole = omega arith; some = write_more _ _ _ _ _ _ _ _ (omega arith) c.write_one.ensures c.loop-place.invariant.some }

pub returns : goal.returns
returns c =
    let e : c.loop-place.place ≡ 12 = omega arith in
    let q : c.in-Some.quad.now ≡ c.args.quad.now = search rules in
    record { answer = search rules; after = rw q at (write_all _ _ _ _ _ c.loop-place.invariant.whole (rw e at c.loop-place.invariant.some)) }
