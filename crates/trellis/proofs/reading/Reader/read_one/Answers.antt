use Rattle.std.proofs.Common.{◌<◌, length, arith, rules}
use Rattle.std.proofs.lemmas.List.{get_or-set_same}
use Rattle.trellis.specs.Reader.{new_memory}
use Rattle.trellis.proofs.ReadLane.{read_none}
use Rattle.trellis.proofs.reading.Reader.read_one.Goals as goal

pub returns : goal.returns
returns c =
    let l : c.args.e < length c.args.self.now.memories = omega arith in
    record { lane = rw (get_or-set_same c.args.self.now.memories c.args.e _ new_memory l) (c.walk.ensures _ _ (read_none _ _ _ _ _ _)); others = search rules }
