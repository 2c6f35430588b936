use Rattle.delay.proofs.Regions.{chain_sound}
use Rattle.delay.proofs.plain.calls.ChainBranching.cells.Goals as goal

pub returns-clause-sound : goal.returns-clause-sound
returns-clause-sound c = chain_sound c.args.self.size
