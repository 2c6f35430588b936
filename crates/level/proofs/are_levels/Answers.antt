use Rattle.std.proofs.Common.{◌≡◌, Bool, true, false, cond, ◌&&◌, ◌∙◌, refl, rules, List, ℤ, [], ◌∷◌, arith}
use Rattle.std.specs.List.{fold}
use Rattle.std.proofs.lemmas.Iterator.{YieldsList-from_slice}
use Rattle.std.proofs.lemmas.Iterator.Consumers.{fold_from_yields_List}
use Rattle.level.specs.Level.{is_level, all_levels}
use Rattle.level.proofs.are_levels.Goals as goal

-- both go through the symbols in the same way
each : (all : Bool) (xs : List ℤ) → fold (λ a x. a && is_level x) all xs ≡ cond all (all_levels xs) false
each true [] = refl
each false [] = refl
each true (x ∷ xs) = let t = each (is_level x) xs in grind arith
each false (x ∷ xs) = each false xs

pub returns : goal.returns
returns c =
    let xs = c.args.symbols.now in
    fold_from_yields_List _ (λ a x. a && is_level x) true c.fold.result c.fold.ensures.ran (YieldsList-from_slice xs cc) (λ a x b q k. search rules) ∙ each true xs
