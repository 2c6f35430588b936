use Rattle.std.proofs.Common.{◌≡◌, ◌+◌, ◌%◌, ◌^◌, ◌≤◌, ◌==◌, Bool, ℤ, pos, int_lt, ℕ, ◌∙◌, length, sym, refl, subst, zero-add, arith, rules, tests}
use Rattle.std.specs.List.{zip, fold, count_by}
use Rattle.std.proofs.lemmas.Iterator.{YieldsList-from_slice, YieldsList-from_zip}
use Rattle.std.proofs.lemmas.Iterator.Consumers.{fold_from_yields_List}
use Rattle.std.proofs.lemmas.Slice.Zip.{length-zip}
use Rattle.level.specs.Level.{bit}
use Rattle.segments.specs.Segment.{differ}
use Rattle.segments.specs.Report.{sign_at, digit_bit}
use Rattle.segments.proofs.Made.{count_of_pairs, summed}
use Rattle.segments.proofs.Numbers.{count_small}
use Rattle.segments.proofs.pn.Sequence.differing.Goals as goal

pub returns-clause-count : goal.returns-clause-count
returns-clause-count g c =
    let levels = c.args.levels.now in
    let digits = c.args.self.0.now in
    let p : ℤ × ℕ → Bool = λ (v, d). differ (int_lt (pos 0) v) (d == 49) in
    let e : c.fold-wrong.result ≡ fold (λ n x. (n + bit (p x)) % 2 ^ 16) 0 (zip levels digits) =
    fold_from_yields_List _ (λ n x. (n + bit (p x)) % 2 ^ 16) 0 c.fold-wrong.result c.fold-wrong.ensures.ran
    (YieldsList-from_zip (YieldsList-from_slice levels cc) (YieldsList-from_slice digits cc)) (λ a x b q k. search (rules, tests)) in
    let l = length-zip levels digits in
    c.from.ensures ∙ (e ∙ (summed p 0 (zip levels digits) (omega arith) ∙ zero-add (count_by p (zip levels digits)) ∙ count_of_pairs p (pos 0) 0 (length levels) levels digits refl (omega arith)))

pub returns-clause-few : goal.returns-clause-few
returns-clause-few g c =
    let levels = c.args.levels.now in
    subst (λ n. n ≤ length levels) (sym (returns-clause-count g c)) (count_small (λ k. differ (sign_at levels k) (digit_bit c.args.self.0.now k)) (length levels))
