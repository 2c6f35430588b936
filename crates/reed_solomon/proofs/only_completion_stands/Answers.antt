use Rattle.rows.proofs.Unique.{only_completion}
use Rattle.reed_solomon.proofs.only_completion_stands.Goals as goal

pub returns : goal.returns
returns c = only_completion
