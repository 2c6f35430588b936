use Rattle.std.proofs.Common.{rules, of_calls, ◌≡◌, ◌+◌, ◌^◌, ◌<◌, arith, Ok, sym, refl, ◌∙◌}
use Rattle.std.specs.Str.Lines.{lines}
use Rattle.std.proofs.lemmas.Fn.{called}
use Rattle.std.proofs.lemmas.Iterator.Consumers.{YieldsList-turn, YieldsList-end, YieldsList-so_far}
use Rattle.std.proofs.lemmas.Result.{err_from_is_err_and}
use Rattle.vectors.proofs.Comparing.{numbered, one_more, few, at_heading, at_line, turn_at, all_read, all_counted, stops, ok_before, err_before}
use Rattle.vectors.proofs.lines.compare.Goals as goal

pub counted-tally-requires : goal.counted-tally-requires
counted-tally-requires g c =
    let t = YieldsList-turn (numbered c.args.text.now (cc) (cc)) c.loop-n.yielded _ c.loop-n.yielded_by _ _ (c.in-Some.n, c.in-Some.line) c.in-Some.is c.next.ensures.steps in
    let u = turn_at (lines c.args.text.now) _ _ t in
    let s : c.in-Some.n + 1 < 2 ^ 64 = search rules in
    omega (arith, few g.F.FnMut _ _ _ c.loop-n.invariant.so_far)

pub loop-n-preserved : goal.loop-n-preserved
loop-n-preserved g c = record {
  callable = search of_calls;
  so_far = one_more g.F.FnMut _ _ _ _ (c.in-Some.n, c.in-Some.line) c.loop-n.invariant.so_far
      (at_heading g.F.FnMut _ (c.in-Some.n, c.in-Some.line.now) (sym c.is_heading.ensures ∙ c.if-not-is_heading.false));
}

pub loop-n-preserved-then-not-is_heading : goal.loop-n-preserved-then-not-is_heading
loop-n-preserved-then-not-is_heading g c =
    let e : c.agrees.result ≡ Ok c.in_ok-equal.equal = ok_before c.agrees.result c.map_err.result _ _ c.map_err.ensures.cases c.in_ok-equal.was in
    record {
      callable = search of_calls;
      so_far = one_more g.F.FnMut _ _ _ _ (c.in-Some.n, c.in-Some.line) c.loop-n.invariant.so_far
          (at_line g.F.FnMut _ _ (c.in-Some.n, c.in-Some.line.now) c.in_ok-equal.equal (sym c.is_heading.ensures ∙ c.if-not-is_heading.true)
          (c.in-Some.line, refl, called g.F.FnMut {f = c.loop-n.agrees} {f' = c.agrees.new.self} {a = (c.in-Some.n + 1, (c.in-Some.line, tt))} {r = c.agrees.result} c.agrees.ensures e) c.counted-tally.ensures);
    }

pub returns-clause-ok : goal.returns-clause-ok
returns-clause-ok g c =
    let t = YieldsList-end (numbered c.args.text.now (cc) (cc)) c.loop-n.yielded _ c.loop-n.yielded_by _ _ c.in-None.is c.next.ensures.steps in
    (c.loop-n.agrees, all_read g.F.FnMut _ c.args.text.now c.loop-n.yielded _ t.0 c.loop-n.invariant.so_far)

pub returns-clause-every : goal.returns-clause-every
returns-clause-every g c =
    let t = YieldsList-end (numbered c.args.text.now (cc) (cc)) c.loop-n.yielded _ c.loop-n.yielded_by _ _ c.in-None.is c.next.ensures.steps in
    all_counted g.F.FnMut _ c.args.text.now c.loop-n.yielded _ t.0 c.loop-n.invariant.so_far

pub returns-in_err-equal-clause-err : goal.returns-in_err-equal-clause-err
returns-in_err-equal-clause-err g c =
    let so_far = YieldsList-so_far (numbered c.args.text.now (cc) (cc)) c.loop-n.yielded _ c.loop-n.yielded_by in
    let t = YieldsList-turn (numbered c.args.text.now (cc) (cc)) c.loop-n.yielded _ c.loop-n.yielded_by _ _ (c.in-Some.n, c.in-Some.line) c.in-Some.is c.next.ensures.steps in
    let u = turn_at (lines c.args.text.now) _ _ t in
    let w = err_before c.agrees.result c.map_err.result _ c.in_err-equal.field-0.0 c.map_err.ensures.cases c.in_err-equal.was in
    let p = err_from_is_err_and c.from_residual.result c.from_residual.ensures.1 in
    let z : c.in_err-equal.field-0.0 ≡ record { line = c.in-Some.n + 1; why = w.0 } = search (rules, w.2) in
    rw (p.1, p.2, z) (stops g.F.FnMut _ c.args.text.now c.loop-n.yielded (c.loop-n.agrees, (c.loop-n.tally.equal, c.loop-n.tally.different)) (c.in-Some.n, c.in-Some.line) w.0 c.agrees.new.self so_far u c.loop-n.invariant.so_far
    (sym c.is_heading.ensures ∙ c.if-not-is_heading.true) (called g.F.FnMut {f = c.loop-n.agrees} {f' = c.agrees.new.self} {a = (c.in-Some.n + 1, (c.in-Some.line, tt))} {r = c.agrees.result} c.agrees.ensures w.1))
