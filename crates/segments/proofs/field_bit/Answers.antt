use Rattle.std.proofs.Common.{◌-◌, sym, ap, ◌∙◌, arith}
use Rattle.segments.specs.Segment.{differ}
use Rattle.segments.proofs.Sequences.{entry511, entry63}
use Rattle.segments.proofs.Bits.{in_sync, in_pn511, in_first, in_second, in_third, in_data}
use Rattle.segments.proofs.field_bit.Goals as goal

pub returns-in-0-to-3 : goal.returns-in-0-to-3
returns-in-0-to-3 c = sym (in_sync c.args.sync.now c.args.second c.args.position (omega arith))

pub returns-in-4-to-514 : goal.returns-in-4-to-514
returns-in-4-to-514 c =
    c.bit.ensures ∙ entry511 (c.args.position - 4) (omega arith) ∙ sym (in_pn511 c.args.sync.now c.args.second c.args.position (omega arith) (omega arith))

pub returns-in-515-to-577 : goal.returns-in-515-to-577
returns-in-515-to-577 c =
    c.bit-in-515-to-577.ensures ∙ entry63 (c.args.position - 515) (omega arith) ∙ sym (in_first c.args.sync.now c.args.second c.args.position (omega arith) (omega arith))

pub returns-in-578-to-640 : goal.returns-in-578-to-640
returns-in-578-to-640 c =
    ap (differ c.args.second) (c.bit-in-578-to-640.ensures ∙ entry63 (c.args.position - 578) (omega arith))
    ∙ sym (in_second c.args.sync.now c.args.second c.args.position (omega arith) (omega arith))

pub returns-in-641-to-703 : goal.returns-in-641-to-703
returns-in-641-to-703 c =
    c.bit-in-641-to-703.ensures ∙ entry63 (c.args.position - 641) (omega arith) ∙ sym (in_third c.args.sync.now c.args.second c.args.position (omega arith) (omega arith))

pub returns-in_default : goal.returns-in_default
returns-in_default c = c.sync_bit.ensures ∙ sym (in_data c.args.sync.now c.args.second c.args.position (omega arith))
