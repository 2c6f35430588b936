use Rattle.std.proofs.Common.{arith}
use Rattle.delay.proofs.Regions.{turn_few}
use Rattle.delay.proofs.branches.Shape.next.Goals as goal

pub overflow_add-result : goal.overflow_add-result
overflow_add-result c = record { fits = omega (arith, turn_few c.args.self c.args.turn.branch c.requires.inside) }
