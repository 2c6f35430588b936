-- At which arguments `array::from_fn` and `map` call.
use Rattle.std.proofs.Common.{◌≡◌, ℕ, ◌<◌, true, List, [], ◌∷◌, ℤ, sym, ap, ◌∙◌, subst, refl, arith}
use Rattle.std.specs.Array.{index_steps, list_steps}
use Rattle.std.specs.Iterator.{CallableAtEachTurn, Yields}
use Rattle.std.proofs.lemmas.Fn.{serves_by}
use Rattle.level.specs.Level.{is_level, all_levels}

-- a closure that may be called at each index below n, where no call changes what it holds
pub index_turns : {F : Type 0} (R : F → ℕ → F → Type 0) (Q : F → ℕ → Type 0) (n : ℕ) (f : F) → ((i : ℕ) (q : F) → R f i q → q ≡ f) → ((i : ℕ) → i < n → Q f i) → CallableAtEachTurn (index_steps n) R Q 0 f
index_turns R Q n f stays may =
    serves_by R (λ xs q. q ≡ f) (λ xs q i v e r. stays i v (subst (λ x. R x i v) e r)) (index_steps n) Q 0 f refl
    (λ xs t q i u came step e. subst (λ x. Q x i) (sym e) (may i (let a = step.0 in let b = step.1 in omega arith)))

levels_left : (ys xs zs : List ℤ) → Yields list_steps xs ys zs → all_levels xs ≡ true → all_levels zs ≡ true
levels_left [] xs zs e h = ap all_levels (sym e) ∙ h
levels_left (y ∷ ys) xs zs (j, e, more) h = let l : all_levels (y ∷ j) ≡ true = ap all_levels (sym e) ∙ h in levels_left ys j zs more (grind arith)

-- a function that may be called at each level may be called at each of several levels
pub level_turns : {F : Type 0} (R : F → ℤ → F → Type 0) (Q : F → ℤ → Type 0) (xs : List ℤ) (f : F) → ((q : F) (x : ℤ) → is_level x ≡ true → Q q x) → all_levels xs ≡ true → CallableAtEachTurn list_steps R Q xs f
level_turns R Q xs f may h =
    record {
      at = λ ys t q x u came folds step. may q x (let l : all_levels (x ∷ u) ≡ true = ap all_levels (sym step) ∙ levels_left ys xs t came h in grind arith);
    }
