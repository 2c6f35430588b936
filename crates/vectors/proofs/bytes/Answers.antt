use Rattle.std.proofs.Common.{arith}
use Rattle.vectors.proofs.Steps.{odd_none, at_start}
use Rattle.vectors.proofs.bytes.Goals as goal

pub returns-in_default : goal.returns-in_default
returns-in_default c = odd_none c.args.digits.now (omega arith)

pub loop-high-init : goal.loop-high-init
loop-high-init c = at_start c.args.digits.now c.new-out.result.items c.as_chunks.result.0.now (omega arith) c.as_chunks.ensures.front c.new-out.ensures.items
