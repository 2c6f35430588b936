use Rattle.std.proofs.Common.{ℕ, not, ◌==◌, ◌∙◌, rules, tests}
use Rattle.std.specs.List.{zip}
use Rattle.std.proofs.lemmas.Iterator.{YieldsList-from_slice, YieldsList-from_zip}
use Rattle.std.proofs.lemmas.Iterator.Consumers.{YieldsList-at, YieldsList-from_filter, count_from_yields_List}
use Rattle.std.proofs.lemmas.List.Sums.{length-filter}
use Rattle.correction.proofs.Corrected.{differing_counted}
use Rattle.mender.proofs.distance.Goals as goal

pub returns : goal.returns
returns c =
    let a = c.args.a.now in
    let b = c.args.b.now in
    count_from_yields_List c.filter.result _ c.count.ensures.ran
    (YieldsList-from_filter _ (λ (p : ℕ × ℕ). not (p.0 == p.1)) (YieldsList-at c.filter.ensures.source (YieldsList-from_zip (YieldsList-from_slice a cc) (YieldsList-from_slice b cc))) c.filter.ensures.closure
    (λ x r q k. search (rules, tests)))
    ∙ length-filter (λ (p : ℕ × ℕ). not (p.0 == p.1)) (zip a b) ∙ differing_counted a b
