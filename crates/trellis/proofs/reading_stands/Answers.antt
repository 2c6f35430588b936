use Rattle.trellis.proofs.Returns.{reading_laws}
use Rattle.trellis.proofs.reading_stands.Goals as goal

pub returns : goal.returns
returns c = reading_laws
