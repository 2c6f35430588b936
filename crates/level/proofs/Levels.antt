-- Laws of levels, by the eight cases.
use Rattle.std.proofs.Common.{◌≡◌, ℕ, zero, suc, ◌+◌, ◌<◌, ◌≤◌, Bool, true, false, cond, List, [], ◌∷◌, ◌++◌, length, get_or, take, drop, ℤ, pos, negsuc, neg_ℤ, refl, ap, ◌∙◌, add-one, arith, drop-cons, w8, SFits, to_z, of_z}
use Rattle.std.proofs.lemmas.List.{drop_all}
use Rattle.std.proofs.lemmas.Int.{to_z-of_z}
use Rattle.level.specs.Level.{level_of, bits_of, is_level, all_levels, LevelLaws}

level_is : (a b c : Bool) → is_level (level_of (record { z2 = a; z1 = b; z0 = c })) ≡ true
level_is a b c = grind arith

back : (a b c : Bool) → bits_of (level_of (record { z2 = a; z1 = b; z0 = c })) ≡ record { z2 = a; z1 = b; z0 = c }
back a b c = grind arith

from_level : (v : ℤ) → is_level v ≡ true → level_of (bits_of v) ≡ v
from_level (pos n) h = grind arith
from_level (negsuc n) h = grind arith

pub level_laws : LevelLaws
level_laws =
    record {
      bits_make_a_level = λ t. level_is t.z2 t.z1 t.z0;
      bits_come_back = λ t. back t.z2 t.z1 t.z0;
      levels_come_back = from_level;
    }

-- each of several levels is a level
pub levels_at : (xs : List ℤ) (i : ℕ) → all_levels xs ≡ true → i < length xs → is_level (get_or xs i (pos 0)) ≡ true
levels_at [] i e h = absurd (omega arith)
levels_at (x ∷ xs) zero e h = grind arith
levels_at (x ∷ xs) (suc i) e h = levels_at xs i (grind arith) (omega arith)

-- the first of several levels
pub levels_take : (n : ℕ) (xs : List ℤ) → all_levels xs ≡ true → all_levels (take n xs) ≡ true
levels_take zero xs e = refl
levels_take (suc n) [] e = refl
levels_take (suc n) (x ∷ xs) e = let t = levels_take n xs (grind arith) in grind arith

-- the last of several levels
pub levels_drop : (n : ℕ) (xs : List ℤ) → all_levels xs ≡ true → all_levels (drop n xs) ≡ true
levels_drop zero xs e = e
levels_drop (suc n) [] e = refl
levels_drop (suc n) (x ∷ xs) e = levels_drop n xs (grind arith)

-- one symbol of a walk along the symbols
pub levels_next : (xs : List ℤ) (i : ℕ) → i < length xs → all_levels (drop i xs) ≡ cond (is_level (get_or xs i (pos 0))) (all_levels (drop (i + 1) xs)) false
levels_next xs i h = rw add-one (ap all_levels (drop-cons xs i (pos 0) h))

-- its end
pub levels_end : (xs : List ℤ) (i : ℕ) → length xs ≤ i → all_levels (drop i xs) ≡ true
levels_end xs i h = ap all_levels (drop_all i xs h)

-- levels one after the other
pub levels_append : (xs ys : List ℤ) → all_levels xs ≡ true → all_levels ys ≡ true → all_levels (xs ++ ys) ≡ true
levels_append [] ys e f = f
levels_append (x ∷ xs) ys e f = let t = levels_append xs ys (grind arith) f in grind arith

-- symbols that are each a level are all levels
pub levels_from : (xs : List ℤ) → ((k : ℕ) → k < length xs → is_level (get_or xs k (pos 0)) ≡ true) → all_levels xs ≡ true
levels_from [] f = refl
levels_from (x ∷ xs) f = let a : is_level x ≡ true = f 0 (omega arith) in let b = levels_from xs (λ k h. f (suc k) (omega arith)) in grind arith

-- a level fits a signed byte
pub level_fits : (v : ℤ) → is_level v ≡ true → SFits w8 v
level_fits (pos n) h = record { sfits = grind arith }
level_fits (negsuc n) h = record { sfits = grind arith }

-- one of several levels, as it is read
pub level_read : (xs : List ℤ) (i : ℕ) → all_levels xs ≡ true → i < length xs → is_level (to_z w8 (of_z w8 (get_or xs i (pos 0)))) ≡ true
level_read xs i e h = let l = levels_at xs i e h in ap is_level (to_z-of_z w8 (get_or xs i (pos 0)) (level_fits (get_or xs i (pos 0)) l)) ∙ l

-- a level negated is a level, and nothing else negated is
pub level_negated : (v : ℤ) → is_level (neg_ℤ v) ≡ is_level v
level_negated (pos zero) = refl
level_negated (pos (suc n)) = grind arith
level_negated (negsuc n) = grind arith
