use Rattle.std.proofs.Common.{refl, rules}
use Rattle.delay.proofs.Calls.{plain_cleared}
use Rattle.delay.proofs.plain.PlainDelay.clear.Goals as goal

pub returns-clause-after : goal.returns-clause-after
returns-clause-after g c = plain_cleared c.args.zero c.args.self.now _ c.args.cells.now c.clear.new.cells refl refl (search rules)
