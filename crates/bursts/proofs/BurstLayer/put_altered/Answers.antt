use Rattle.std.proofs.Common.{◌*◌, ◌+◌, List, vec_items, sym, refl, ap, ◌∙◌, arith}
use Rattle.bursts.specs.declared.Burst.{Burst}
use Rattle.bursts.specs.Bursts.{in_bursts}
use Rattle.bursts.specs.Layer.{first_place}
use Rattle.bursts.proofs.Alters.{altered_none, altered_answer, untouched}
use Rattle.bursts.proofs.BurstLayer.put_altered.Goals as goal

pub returns-then-not-any_meets-clause-lower : goal.returns-then-not-any_meets-clause-lower
returns-then-not-any_meets-clause-lower g c =
    let state = g.L.Line.state in
    let s = state c.args.self.now.lower in
    let bs = vec_items c.args.self.now.list in
    let f = c.args.segment.now in
    untouched s (state c.put-then-not-any_meets.new.self) bs (first_place s) f c.put-then-not-any_meets.result c.put-then-not-any_meets.ensures.answer
    (λ long levels. altered_none bs (first_place s) f (λ i h.
    ap (λ (l : List Burst). in_bursts l (first_place s + i)) (sym c.deref.ensures.value) ∙ ap (λ n. in_bursts c.deref.result.now (832 * n + i)) (sym c.number-first.ensures) ∙ c.if-not-any_meets.ensures refl i (omega arith)))
    c.put-then-not-any_meets.ensures.after

pub returns-clause-answer : goal.returns-clause-answer
returns-clause-answer g c =
    let s = g.L.Line.state c.args.self.now.lower in
    let bs = vec_items c.args.self.now.list in
    let same = altered_answer s bs (first_place s) c.args.segment.now in
    let d = c.deref-2.ensures.value in
    let a = c.alter.ensures in
    let n = c.number-first.ensures in
    let e = c.in-Ok.ensures in
    let p = c.put-2.ensures.answer in cc
