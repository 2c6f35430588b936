use Rattle.std.proofs.Common.{arith}
use Rattle.reed_solomon.specs.Held.{held}
use Rattle.reed_solomon.proofs.Words.{rolled}
use Rattle.reed_solomon.proofs.register.Register.roll.Goals as goal

pub returns : goal.returns
unfolding held
returns c =
    rolled c.args.self.high c.args.self.low c.args.b c.multiple-off.result.high c.multiple-off.result.low (omega arith) (omega arith) (omega arith)
    c.multiple-off.ensures
