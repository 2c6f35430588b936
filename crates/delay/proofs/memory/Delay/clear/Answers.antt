use Rattle.std.proofs.Common.{rules}
use Rattle.delay.proofs.Calls.{cleared}
use Rattle.delay.proofs.memory.Delay.clear.Goals as goal

pub returns-clause-after : goal.returns-clause-after
returns-clause-after g c = cleared c.args.zero c.args.self.now c.fresh.result c.args.cells.now c.clear.new.cells c.fresh.ensures.shape c.fresh.ensures.fresh (search rules)
