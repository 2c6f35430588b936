use Rattle.std.proofs.Common.{◌∙◌, rules, tests}
use Rattle.std.proofs.lemmas.Iterator.{YieldsList-from_slice}
use Rattle.std.proofs.lemmas.Iterator.Search.{any_from_yields_List}
use Rattle.bursts.specs.Bursts.{in_burst}
use Rattle.bursts.proofs.Alters.{covers}
use Rattle.bursts.proofs.within.Goals as goal

pub returns : goal.returns
returns c =
    let bs = c.args.bursts.now in
    any_from_yields_List (λ b. in_burst b c.args.place) _ _ _ c.any.ensures.ran (YieldsList-from_slice bs cc) (λ x b q k. search (rules, tests)) ∙ covers bs c.args.place
