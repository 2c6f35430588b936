use Rattle.std.proofs.Common.{◌<◌, length, sym, ◌∙◌, arith}
use Rattle.std.proofs.lemmas.List.{get_or_read}
use Rattle.delay.proofs.Calls.{running_more}
use Rattle.delay.proofs.ring.pass.Goals as goal

pub loop-x-preserved : goal.loop-x-preserved
loop-x-preserved g c = let l : c.loop-x.x-index < length c.loop-x.part = omega arith in record {
  placed = c.through.ensures.placed;
  stands = c.through.ensures.stands;
  running = running_more _ _ _ _ _ _ _ _ _ _ _ _ l (λ z. sym c.x-item.is ∙ get_or_read _ _ _ l c.x-item.is z) c.through.ensures.took c.loop-x.invariant.running;
}
