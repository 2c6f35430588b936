-- Every symbol of a field sync is a level.
use Rattle.std.proofs.Common.{◌≡◌, ℕ, Bool, true, false, List, [], ◌∷◌, ◌++◌, map, ℤ, negsuc, refl}
use Rattle.std.specs.List.{range_with_len}
use Rattle.std.proofs.lemmas.Bool.{cond_both}
use Rattle.std.proofs.lemmas.List.{append-nil}
use Rattle.level.specs.Level.{is_level, all_levels}
use Rattle.segments.specs.Segment.{bit_level, field_bit, field_head, copied_level, field_sync}

-- the level of a bit is a level
bit_is : (b : Bool) → is_level (bit_level b) ≡ true
bit_is true = refl
bit_is false = refl

-- a copied symbol is a level
copied_is : (v : ℤ) → is_level (copied_level v) ≡ true
copied_is v = cond_both (is_level v) v (negsuc 4) (λ x. is_level x ≡ true) (λ e. e) (λ e. refl)

-- symbols that are levels one by one, before others that all are
mapped : {X : Type 0} (f : X → ℤ) → ((x : X) → is_level (f x) ≡ true) → (xs : List X) (ys : List ℤ) → all_levels ys ≡ true → all_levels (map f xs ++ ys) ≡ true
mapped f h [] ys e = e
mapped f h (x ∷ xs) ys e = rw (h x) (mapped f h xs ys e)

-- every symbol of a field sync is a level
pub all_are_levels : (sync : List ℕ) (second : Bool) (twelve : List ℤ) → all_levels (field_sync sync second twelve) ≡ true
unfolding field_head
all_are_levels sync second twelve =
    mapped (λ p. bit_level (field_bit sync second p)) (λ p. bit_is (field_bit sync second p)) (range_with_len 0 820) (map copied_level twelve)
    (rw append-nil at (mapped copied_level copied_is twelve [] refl))
