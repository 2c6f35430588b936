use Rattle.std.proofs.Common.{arith}
use Rattle.reed_solomon.specs.Held.{held}
use Rattle.reed_solomon.proofs.Words.{rolled_two}
use Rattle.reed_solomon.proofs.register.Register.roll_two.Goals as goal

pub returns : goal.returns
unfolding held
returns c =
    rolled_two c.args.self.high c.args.self.low c.args.a c.args.b c.multiple-first.result.high c.multiple-first.result.low c.multiple-second.result.high
    c.multiple-second.result.low (omega arith) (omega arith) (omega arith) (omega arith) (omega arith) c.multiple-first.ensures c.multiple-second.ensures
