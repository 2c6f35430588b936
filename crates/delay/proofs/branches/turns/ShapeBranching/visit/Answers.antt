use Rattle.std.proofs.Common.{arith}
use Rattle.delay.proofs.Regions.{turn_few}
use Rattle.delay.proofs.branches.turns.ShapeBranching.visit.Goals as goal

pub overflow_add-result : goal.overflow_add-result
overflow_add-result c =
    let stands = c.requires.stands in
    record { fits = omega (arith, turn_few c.args.self c.args.turn.now.branch stands.inside, stands.fit c.args.turn.now.branch stands.inside) }
