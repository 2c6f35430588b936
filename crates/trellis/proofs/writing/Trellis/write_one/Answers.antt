use Rattle.std.proofs.Common.{◌<◌, length, arith, rules}
use Rattle.std.proofs.lemmas.List.{get_or-set_same}
use Rattle.trellis.specs.Sent.{new_encoder}
use Rattle.trellis.proofs.WriteLane.{lane_none}
use Rattle.trellis.proofs.writing.Trellis.write_one.Goals as goal

pub returns : goal.returns
returns c =
    let l : c.args.e < length c.args.self.now.encoders = omega arith in
    record { lane = rw (get_or-set_same c.args.self.now.encoders c.args.e _ new_encoder l) (c.walk.ensures _ _ (lane_none _ _ _ _ _)); others = search rules }
