-- The delayed output in its cases.
use Rattle.std.proofs.Common.{◌≡◌, ℕ, ◌+◌, ◌-◌, ◌*◌, ◌%◌, ◌<◌, ◌≤◌, List, [], ◌∷◌, ◌++◌, length, get_or, arith}
use Rattle.std.proofs.lemmas.List.{get_or_append_left, get_or_push}
use Rattle.std.proofs.lemmas.Bool.Decides.{nat_tests}
use Rattle.delay.specs.Ring.{delayed}

module _ {X : Type 0} (z : X) (b : ℕ) (L : ℕ → ℕ) where
  -- An output whose input was never there.
  pub delayed_none : (h : List X) (i : ℕ) → i < b * L (i % b) → delayed z b L h i ≡ z
  unfolding delayed
  delayed_none h i l = grind (arith, nat_tests)

  -- An output whose input has a number.
  pub delayed_some : (h : List X) (i : ℕ) → b * L (i % b) ≤ i → delayed z b L h i ≡ get_or h (i - b * L (i % b)) z
  unfolding delayed
  delayed_some h i l = grind (arith, nat_tests)

  -- An output that h settles is the same whatever comes after.
  pub delayed_more : (h g : List X) (i : ℕ) → i < length h + b * L (i % b) → delayed z b L (h ++ g) i ≡ delayed z b L h i
  unfolding delayed
  delayed_more h g i l = grind (arith, nat_tests, get_or_append_left h g z (i - b * L (i % b)))

  -- The last output that a new input settles is that input.
  pub delayed_last : (h : List X) (x : X) (i : ℕ) → i ≡ length h + b * L (i % b) → delayed z b L (h ++ x ∷ []) i ≡ x
  unfolding delayed
  delayed_last h x i e = grind (arith, nat_tests, get_or_push h x z (i - b * L (i % b)))

  -- Only z leaves where nothing came.
  pub delayed_empty : (i : ℕ) → delayed z b L [] i ≡ z
  unfolding delayed
  delayed_empty i = grind (arith, nat_tests)
