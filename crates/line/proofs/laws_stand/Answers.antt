use Rattle.line.proofs.Orders.{line_laws}
use Rattle.line.proofs.laws_stand.Goals as goal

pub returns : goal.returns
returns c = line_laws
