use Rattle.randomizer.proofs.Rows.{packet_returns}
use Rattle.randomizer.proofs.row.packet_returns_stands.Goals as goal

pub returns : goal.returns
returns c = packet_returns
