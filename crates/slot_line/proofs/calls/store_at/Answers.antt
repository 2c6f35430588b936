use Rattle.std.proofs.Common.{ap, arith}
use Rattle.line.proofs.Blocks.{block_other}
use Rattle.slot_line.proofs.calls.store_at.Goals as goal

pub returns-clause-others : goal.returns-clause-others
returns-clause-others g c = λ i ne. ap g.S.Layout.segment_in (rw c.CELLS.ensures (block_other g.S.Layout.CELLS c.args.slot _ c.args.memory.now c.store.new.slot i (omega arith) (omega arith) (omega arith) ne))
