use Rattle.std.proofs.Common.{refl, arith, w8, rules}
use Rattle.std.proofs.lemmas.Int.{to_z-of_z}
use Rattle.trellis.proofs.WriteLane.{lane_more}
use Rattle.trellis.proofs.writing.EncoderCoderArrayU8828ArrayI8828.symbol.Goals as goal

pub returns : goal.returns
returns c =
    λ start given h.
    rw (to_z-of_z w8 c.send_pair.result (search rules))
    (lane_more c.args.quad.now c.args.lane.first c.args.lane.place start given c.args.g c.args.out.now _ _
    (omega arith) (omega arith) (omega arith) (omega arith) c.byte.result c.byte.ensures.at _ refl _ refl _ c.send_pair.ensures h)
