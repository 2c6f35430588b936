use Rattle.std.proofs.Common.{pos, rules}
use Rattle.segments.specs.Segment.{bit_level, field_bit, field_head}
use Rattle.segments.proofs.Made.{made_of_indices}
use Rattle.segments.proofs.bit_levels.Goals as goal

pub returns : goal.returns
unfolding field_head
returns c =
    made_of_indices _ (λ p. bit_level (field_bit c.args.sync.now c.args.second p)) _ (λ i y q k. search rules) 820 c.from_fn.result (pos 0) c.from_fn.ensures.items
