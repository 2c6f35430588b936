use Rattle.segments.proofs.Sequences.{recurrences}
use Rattle.segments.proofs.Back.{read_back}
use Rattle.segments.proofs.laws_stand.Goals as goal

pub returns : goal.returns
returns c = record { recurrences = recurrences; read_back = read_back }
