use Rattle.delay.proofs.Regions.{sound_of}
use Rattle.delay.proofs.branches.turns.ShapeBranching.cells.Goals as goal

pub returns-clause-sound : goal.returns-clause-sound
returns-clause-sound c = sound_of c.args.self
