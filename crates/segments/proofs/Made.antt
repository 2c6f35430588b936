-- Arrays that a closure makes, and counts over two lists.
use Rattle.std.proofs.Common.{◌≡◌, ℕ, zero, suc, ◌+◌, ◌%◌, ◌^◌, ◌<◌, ◌≤◌, Bool, cond, List, [], ◌∷◌, map, length, get_or, sym, refl, ap, ◌∙◌, add-zero, arith}
use denote.Param.Members.{Mut}
use Rattle.std.specs.Fn.{Called}
use Rattle.std.specs.Array.{IsFromFnResult}
use Rattle.std.specs.List.{range_with_len, count_by, fold, zip}
use Rattle.std.proofs.lemmas.List.FromFn.{fill_by_all}
use Rattle.std.proofs.lemmas.List.Sums.{sum_by-cons}
use Rattle.tables.proofs.Arrays.{each_of}
use Rattle.level.specs.Level.{bit}
use Rattle.segments.specs.Report.{count}
use Rattle.segments.proofs.Numbers.{bit_small}

-- a closure that gives h of each index, and that its calls leave as it is, makes h of each index
module _ {F B : Type 0} (g : Mut F (ℕ × Unit {0}) B) (h : ℕ → B) (f : F) (step : (i : ℕ) (y : B) (q : F) → Called g f (i, tt) y q → (y ≡ h i) × (q ≡ f)) where
  pub made_of_indices : (n : ℕ) (ys : List B) (d : B) → IsFromFnResult g f ys n → ys ≡ map h (range_with_len 0 n)
  made_of_indices n ys d m = fill_by_all h ys n d m.long (λ k l. each_of g (λ k y. y ≡ h k) f step ys n m k d l)

-- the first test apart
count_first : (test : ℕ → Bool) (n : ℕ) → count test (suc n) ≡ bit (test 0) + count (λ k. test (suc k)) n
unfolding count
count_first test zero = omega arith
count_first test (suc n) = let h = count_first test n in omega arith

-- a count over two lists of n entries, by their indices
pub count_of_pairs : {X Y : Type 0} (p : X × Y → Bool) (dx : X) (dy : Y) (n : ℕ) (xs : List X) (ys : List Y) → length xs ≡ n → length ys ≡ n → count_by p (zip xs ys) ≡ count (λ k. p (get_or xs k dx, get_or ys k dy)) n
unfolding count
count_of_pairs p dx dy zero [] [] e f = refl
count_of_pairs p dx dy zero (x ∷ xs) ys e f = absurd (omega arith)
count_of_pairs p dx dy zero [] (y ∷ ys) e f = absurd (omega arith)
count_of_pairs p dx dy (suc n) [] ys e f = absurd (omega arith)
count_of_pairs p dx dy (suc n) (x ∷ xs) [] e f = absurd (omega arith)
count_of_pairs p dx dy (suc n) (x ∷ xs) (y ∷ ys) e f =
    let h = count_of_pairs p dx dy n xs ys (omega arith) (omega arith) in
    let c = count_first (λ k. p (get_or (x ∷ xs) k dx, get_or (y ∷ ys) k dy)) n in
    sum_by-cons (λ q. cond (p q) 1 0) (x, y) (zip xs ys) ∙ (ap (λ (m : ℕ). bit (p (x, y)) + m) h ∙ sym c)

-- a sum of 16 bits counts up to 65,535 elements that pass a test
pub summed : {X : Type 0} (p : X → Bool) (a : ℕ) (xs : List X) → a + length xs < 2 ^ 16 → fold (λ n x. (n + bit (p x)) % 2 ^ 16) a xs ≡ a + count_by p xs
summed p a [] h = sym (add-zero a)
summed p a (x ∷ xs) h =
    let b : bit (p x) ≤ 1 = bit_small (p x) in
    let e : (a + bit (p x)) % 2 ^ 16 ≡ a + bit (p x) = omega arith in
    ap (λ n. fold (λ n x. (n + bit (p x)) % 2 ^ 16) n xs) e ∙ (summed p (a + bit (p x)) xs (omega arith) ∙ (let c = sum_by-cons (λ q. cond (p q) 1 0) x xs in omega arith))
