use Rattle.std.proofs.Common.{rules}
use Rattle.randomizer.specs.Stages.{next, after}
use Rattle.randomizer.proofs.Blocks.{eight_on}
use Rattle.randomizer.proofs.eight_steps.Goals as goal

pub returns : goal.returns
unfolding after next
returns c = eight_on c.args.state (search rules)
