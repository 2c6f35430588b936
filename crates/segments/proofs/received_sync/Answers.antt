use Rattle.std.proofs.Common.{rules}
use Rattle.segments.specs.Report.{received_byte, received_sync}
use Rattle.segments.proofs.Made.{made_of_indices}
use Rattle.segments.proofs.received_sync.Goals as goal

pub returns : goal.returns
unfolding received_sync
returns c = made_of_indices _ (received_byte c.args.segment.now) _ (λ i y q k. search rules) 15 c.from_fn.result 0 c.from_fn.ensures.items
