use Rattle.std.proofs.Common.{ap, ◌∙◌, add-one, arith, w8, to_z, of_z, List, ℤ, set}
use Rattle.level.proofs.Levels.{level_read}
use Rattle.bursts.proofs.Alters.{one_negated, opposite_read}
use Rattle.bursts.proofs.negate.Goals as goal

pub opposite-requires : goal.opposite-requires
opposite-requires c = level_read c.args.levels.now c.loop-i.i c.requires.levels (omega arith)

pub loop-i-preserved : goal.loop-i-preserved
loop-i-preserved c =
    let xs = c.args.levels.now in
    let i = c.loop-i.i in
    let v = opposite_read xs i c.opposite.result c.requires.levels (omega arith) c.opposite.ensures in
    rw add-one (ap (λ (ys : List ℤ). set ys i (to_z w8 (of_z w8 c.opposite.result))) c.loop-i.invariant ∙ one_negated xs c.args.out.now i _ (omega arith) c.requires.same v)
