use Rattle.correction.proofs.Laws.{near_laws}
use Rattle.mender.proofs.laws_stand.Goals as goal

pub returns : goal.returns
returns c = near_laws
