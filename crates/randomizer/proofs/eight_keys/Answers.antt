use Rattle.std.proofs.Common.{rules}
use Rattle.randomizer.specs.Stages.{next, number_of, byte_of}
use Rattle.randomizer.proofs.Linear.{packed}
use Rattle.randomizer.proofs.Blocks.{eight_packed, eight_bytes}
use Rattle.randomizer.proofs.eight_keys.Goals as goal

pub returns : goal.returns
unfolding packed next byte_of number_of
returns c = eight_bytes _ c.args.state _ c.to_le_bytes.ensures (eight_packed c.args.state (search rules))
