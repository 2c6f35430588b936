use Rattle.std.proofs.Common.{refl, arith, w8, rules}
use Rattle.std.proofs.lemmas.Int.{to_z-of_z}
use Rattle.trellis.proofs.WriteLane.{lane_four}
use Rattle.trellis.proofs.writing.EncoderCoderArrayU8828ArrayI8828.byte.Goals as goal

pub returns : goal.returns
returns c =
    λ start given h.
    let e0 = to_z-of_z w8 c.send_pair.result (search rules) in
    let e1 = to_z-of_z w8 c.send_pair-2.result (search rules) in
    let e2 = to_z-of_z w8 c.send_pair-3.result (search rules) in
    let e3 = to_z-of_z w8 c.send_pair-4.result (search rules) in
    simp (e0, e1, e2, e3)
    (lane_four c.args.quad.now c.args.lane.first c.args.lane.place start given c.args.g (omega arith) (omega arith) (omega arith) (omega arith) c.byte.result c.byte.ensures.at _ refl
    c.args.out.now _ _ _ _ _ _ _ _ _ (omega arith) c.send_pair.ensures c.send_pair-2.ensures c.send_pair-3.ensures c.send_pair-4.ensures h)
