use Rattle.std.proofs.Common.{refl}
use Rattle.delay.proofs.ReturnLaws.{place_law, way_law}
use Rattle.delay.proofs.television_stands.Goals as goal

pub returns : goal.returns
returns g c = record { places = place_law g.row.T.Denot c.args.z; way = way_law g.row.T.Denot c.args.z; sizes = (refl, refl, refl) }
