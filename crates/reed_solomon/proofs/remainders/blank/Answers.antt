use Rattle.std.proofs.Common.{◌≡◌, ℕ, ◌<◌, Bool, true, false, List, length, get_or, replicate, ◌≢◌, Decides, MatchBool, sym, refl, ap, ◌∙◌, arith, rules, tests}
use Rattle.std.specs.List.{HoldsAt, AllWithin}
use Rattle.std.proofs.lemmas.Bool.{false≢true}
use Rattle.std.proofs.lemmas.Iterator.{cases_from_all, YieldsList-from_slice}
use Rattle.std.proofs.lemmas.List.{ext_get_or, get_or-replicate}
use Rattle.reed_solomon.proofs.remainders.blank.Goals as goal

-- a test of each byte decides it
zeros : (r : Bool) (xs : List ℕ) → length xs ≡ 20 → MatchBool r (AllWithin (λ x. x ≡ 0) xs 0 (length xs)) ((k : ℕ) × (k < length xs) × HoldsAt (λ x. x ≢ 0) xs k) → Decides r (xs ≡ replicate 20 0)
zeros true xs l h = (λ _. ext_get_or 0 xs (replicate 20 0) l (λ i k. h i 0 (omega arith) k ∙ sym (get_or-replicate 20 i 0 0 (omega arith))), λ _. refl)
zeros false xs l h = (λ e. absurd (false≢true e), λ e. absurd (h.2 0 (ap (λ (ys : List ℕ). get_or ys h.0 0) e ∙ get_or-replicate 20 h.0 0 0 (omega (arith, h.1)))))

pub returns : goal.returns
returns c =
    zeros c.all.result c.args.bytes.now (omega arith)
    (cases_from_all _ _ _ (λ x. x ≡ 0) (λ x. x ≢ 0) c.all.ensures.ran (YieldsList-from_slice c.args.bytes.now cc) (λ x q k. search (rules, tests)) (λ x q k. search (rules, tests)))
