use Rattle.std.proofs.Common.{◌≡◌, List, vec_items, sym, ap, subst, MatchResult}
use Rattle.line.specs.State.{Arrived}
use Rattle.line.specs.Layer.{layered}
use Rattle.bursts.specs.declared.Burst.{Burst}
use Rattle.bursts.specs.Bursts.{in_bursts}
use Rattle.bursts.proofs.Alters.{layer_after}
use Rattle.bursts.proofs.BurstLayerLine.put.Goals as goal

pub returns-clause-after : goal.returns-clause-after
returns-clause-after g c =
    let state = g.L.Line.state in
    let s = state c.args.self.now.lower in
    let t = state c.put_altered.new.self.lower in
    let bs = vec_items c.args.self.now.list in
    let p = c.put_altered.ensures in
    subst (λ (l : List Burst). MatchResult c.map_err.result (λ _. Arrived (layered (in_bursts bs) s) c.args.segment.now (layered (in_bursts l) t)) (λ _. layered (in_bursts l) t ≡ layered (in_bursts bs) s)) (ap vec_items (sym p.list))
    (layer_after s t bs c.args.segment.now c.put_altered.result c.map_err.result _ c.map_err.ensures.cases p.answer p.lower)
