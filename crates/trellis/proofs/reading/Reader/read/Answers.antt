use Rattle.std.proofs.Common.{◌≡◌, length, ◌≢◌, arith, rules}
use Rattle.trellis.proofs.Write.{each_level}
use Rattle.trellis.proofs.Read.{read_none, read_more, read_all}
use Rattle.trellis.proofs.reading.Reader.read.Goals as goal

pub returns-in_default-as_mut_array-clause-answer : goal.returns-in_default-as_mut_array-clause-answer
returns-in_default-as_mut_array-clause-answer c =
    let n : length c.args.quad.now ≢ 828 = search rules in
    let l : length c.args.symbols.now ≡ 828 = search rules in
    search rules

pub invariant_of-received : goal.invariant_of-received
invariant_of-received c =
    let l : length c.in-Some.levels.now ≡ 828 = search rules in
    record { each_level = λ p h. each_level c.in-Some.levels.now (cc) p (omega arith) }

pub loop-place-preserved : goal.loop-place-preserved
loop-place-preserved c =
    let s : c.in-Some.levels.now ≡ c.args.symbols.now = search rules in
    read_more _ _ _ _ _ _ _ _ _ _ (omega arith) (rw s at c.read_one.ensures) c.loop-place.invariant

pub returns : goal.returns
returns c =
    let e : c.loop-place.place ≡ 12 = omega arith in
    let q : c.in-Some-as_mut_array.quad.now ≡ c.args.quad.now = search rules in
    record { answer = search rules; after = rw q at (read_all _ _ _ _ _ _ _ (rw e at c.loop-place.invariant)) }
