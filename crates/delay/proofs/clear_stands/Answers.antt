use Rattle.delay.proofs.Calls.{clear_law, plain_clear_law}
use Rattle.delay.proofs.clear_stands.Goals as goal

pub returns : goal.returns
returns g c = record { branches = clear_law g.row.T.Denot c.args.z; plain = plain_clear_law g.row.T.Denot c.args.z }
