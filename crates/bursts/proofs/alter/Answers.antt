use Rattle.std.proofs.Common.{◌+◌, ◌-◌, cond, List, get_or, drop, ℤ, pos, neg_ℤ, sym, ap, ◌∙◌, arith}
use borrow.Rule.Slice.PartMut.{put_mid, same_len_mid}
use Rattle.level.proofs.Levels.{levels_take, levels_drop}
use Rattle.bursts.specs.Bursts.{in_bursts}
use Rattle.bursts.proofs.Alters.{bursts_next, bursts_end, alter_more, altered_from, part_negated}
use Rattle.bursts.proofs.alter.Goals as goal

pub negate-requires-clause-levels : goal.negate-requires-clause-levels
negate-requires-clause-levels c =
    let p = c.part_of-start.result in
    levels_take (p.end - p.start) (drop p.start c.args.segment.now) (levels_drop p.start c.args.segment.now c.requires)

pub loop-burst-preserved : goal.loop-burst-preserved
loop-burst-preserved c =
    let bs = c.args.bursts.now in
    let n = c.loop-burst.burst-index in
    let p = c.part_of-start.result in
    let xs = c.args.segment.now in
    let copy = c.loop-burst.copy in
    let a = c.part_of-start.ensures.ordered in
    let b = c.part_of-start.ensures.inside in
    record {
      long = same_len_mid p.start (p.end - p.start) copy c.negate.new.out c.negate.auto.out ∙ c.loop-burst.invariant.long;
      so_far =
          λ i h. let q = c.args.first + i in
          let x = get_or xs i (pos 0) in
          alter_more _ (in_bursts (drop (n + 1) bs) q) (in_bursts bs q) _ x (get_or copy i (pos 0)) _ (c.part_of-start.ensures.exact i h) (ap (λ (part : List ℤ). get_or (put_mid p.start (p.end - p.start) copy part) i (pos 0)) c.negate.ensures ∙ part_negated xs copy p.start p.end i (omega arith) a (omega arith) (omega arith))
          (ap (λ t. cond t (neg_ℤ x) (get_or copy i (pos 0))) (sym (bursts_next bs n q (omega arith))) ∙ c.loop-burst.invariant.so_far i h);
    }

pub returns : goal.returns
returns c =
    altered_from c.args.bursts.now c.args.first c.args.segment.now c.loop-burst.copy (omega arith)
    (λ i h. let q = c.args.first + i in
    let x = get_or c.args.segment.now i (pos 0) in
    ap (λ b. cond b (neg_ℤ x) (get_or c.loop-burst.copy i (pos 0))) (sym (bursts_end c.args.bursts.now c.loop-burst.burst-index q (omega arith))) ∙ c.loop-burst.invariant.so_far i (omega arith))
