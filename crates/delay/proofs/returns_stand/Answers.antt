use Rattle.delay.proofs.ReturnLaws.{leaves_law, returns_law, sum_law}
use Rattle.delay.proofs.returns_stand.Goals as goal

pub returns : goal.returns
returns g c = record { leaves = leaves_law g.row.T.Denot c.args.z; returns = returns_law g.row.T.Denot c.args.z; sums = sum_law g.row.T.Denot c.args.z }
