use Rattle.std.proofs.Common.{◌%◌, arith}
use Rattle.randomizer.specs.Stages.{next, after}
use Rattle.randomizer.specs.Packets.{state_at}
use Rattle.randomizer.proofs.Blocks.{starts}
use Rattle.randomizer.proofs.first_state.Goals as goal

pub returns : goal.returns
unfolding state_at after next
returns c = starts 312 (c.args.place % 312) (omega arith)
