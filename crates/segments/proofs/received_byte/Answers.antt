use Rattle.std.proofs.Common.{ℕ, ◌+◌, ◌*◌, ◌∙◌, refl, rules}
use Rattle.std.proofs.lemmas.Iterator.{YieldsList-from_range}
use Rattle.std.proofs.lemmas.Iterator.Consumers.{fold_from_yields_List}
use Rattle.segments.specs.Report.{received_bit}
use Rattle.segments.proofs.Numbers.{pushed, number_of_pushed}
use Rattle.segments.proofs.received_byte.Goals as goal

pub returns : goal.returns
returns c =
    let bits = λ (k : ℕ). received_bit c.args.segment.now (8 * c.args.n + k) in
    fold_from_yields_List _ (pushed bits) 0 c.fold.result c.fold.ensures.ran (YieldsList-from_range 0 8 8 refl refl) (λ a x b q k. search rules)
    ∙ number_of_pushed bits
