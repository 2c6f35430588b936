-- The groups of eight symbols and of three bytes of a slot.
use Rattle.std.proofs.Common.{◌≡◌, ℕ, zero, suc, ◌*◌, ◌<◌, ◌≤◌, true, List, [], ◌∷◌, ◌++◌, length, get_or, take, drop, ℤ, sym, refl, ap, ◌∙◌, ap₂, arith, take-append-drop, length-take-le, length-drop}
use Rattle.std.proofs.lemmas.List.{nil_from_length}
use Rattle.std.specs.List.{flat_map}
use Rattle.std.specs.Simd.{first_chunks}
use Rattle.level.specs.Level.{all_levels}
use Rattle.level.proofs.Levels.{levels_take, levels_drop}
use Rattle.packed_line.specs.Packing.{unpacked}

-- groups of levels
pub group_levels : (w n : ℕ) (xs : List ℤ) (k : ℕ) → all_levels xs ≡ true → all_levels (get_or (first_chunks w n xs) k []) ≡ true
group_levels w zero xs k h = refl
group_levels w (suc n) xs zero h = levels_take w xs h
group_levels w (suc n) xs (suc k) h = group_levels w n (drop w xs) k (levels_drop w xs h)

-- the length of a group
pub group_length : {X : Type 0} (w n : ℕ) (xs : List X) (k : ℕ) → w * n ≤ length xs → k < n → length (get_or (first_chunks w n xs) k []) ≡ w
group_length w zero xs k fits h = absurd (omega arith)
group_length w (suc n) xs zero fits h = length-take-le w xs (grind arith)
group_length w (suc n) xs (suc k) fits h = group_length w n (drop w xs) k (let d = length-drop w xs in grind arith) (omega arith)

-- all groups one after the other
pub groups_join : {X : Type 0} (w n : ℕ) (xs : List X) → length xs ≡ w * n → flat_map (λ x. x) (first_chunks w n xs) ≡ xs
groups_join w zero xs h = sym (nil_from_length xs (grind arith))
groups_join w (suc n) xs h = ap (λ ys. take w xs ++ ys) (groups_join w n (drop w xs) (let d = length-drop w xs in grind arith)) ∙ take-append-drop w xs

three_more : (ys zs : List ℕ) → length ys ≡ 3 → unpacked (ys ++ zs) ≡ unpacked ys ++ unpacked zs
three_more [] zs h = absurd (omega arith)
three_more (a ∷ []) zs h = absurd (omega arith)
three_more (a ∷ b ∷ []) zs h = absurd (omega arith)
three_more (a ∷ b ∷ c ∷ []) zs h = refl
three_more (a ∷ b ∷ c ∷ x ∷ ys) zs h = absurd (omega arith)

-- groups of three bytes that each hold a group of symbols
pub groups_hold : (ys : List (List ℕ)) (gs : List (List ℤ)) → length ys ≡ length gs → ((k : ℕ) → k < length ys → length (get_or ys k []) ≡ 3) → ((k : ℕ) → k < length ys → unpacked (get_or ys k []) ≡ get_or gs k []) → unpacked (flat_map (λ x. x) ys) ≡ flat_map (λ x. x) gs
groups_hold [] [] same long each = refl
groups_hold [] (g ∷ gs) same long each = absurd (omega arith)
groups_hold (y ∷ ys) [] same long each = absurd (omega arith)
groups_hold (y ∷ ys) (g ∷ gs) same long each =
    three_more y (flat_map (λ x. x) ys) (long 0 (omega arith)) ∙
    ap₂ ◌++◌ (each 0 (omega arith)) (groups_hold ys gs (omega arith) (λ k h. long (suc k) (omega arith)) (λ k h. each (suc k) (omega arith)))
