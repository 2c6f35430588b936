use Rattle.galois.proofs.Laws.{field_laws}
use Rattle.galois.proofs.laws_stand.Goals as goal

pub returns : goal.returns
returns c = field_laws
