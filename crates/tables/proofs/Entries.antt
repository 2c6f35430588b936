-- A table's rule at each of its entries: by one test, or by the step from each entry to the next.
use mathlib.Core.Path.{◌≡◌, ◌∙◌, subst, sym, ap}
use mathlib.Core.Bool.{Bool, true}
use mathlib.Core.List.{List, [], ◌∷◌}
use Prim.Native.Nat.{ℕ, zero, suc, ◌+◌, ◌<◌}
use native.Mathlib.Nat.{add-zero, zero-add, add-suc, suc-add, le_of_suc-le-suc, not-suc-le-zero}
use lib.Dec.{T, eqb, eqb→eq}
use lib.ListN.{length, get_or}
use Rattle.tables.proofs.All.{both, both_left, both_right}

-- each entry is what the rule says of its place, counted from i
abbrev pub every : (ℕ → ℕ) → ℕ → List ℕ → Bool
every f i [] = true
every f i (x ∷ xs) = both (eqb x (f i)) (every f (suc i) xs)

from : (f : ℕ → ℕ) (xs : List ℕ) (i : ℕ) → T (every f i xs) → (k : ℕ) → k < length xs → get_or xs k 0 ≡ f (i + k)
from f [] i t k h = absurd (not-suc-le-zero h)
from f (x ∷ xs) i t zero h = eqb→eq x (f i) (both_left (eqb x (f i)) (every f (suc i) xs) t) ∙ ap f (sym (add-zero i))
from f (x ∷ xs) i t (suc k) h = from f xs (suc i) (both_right (eqb x (f i)) (every f (suc i) xs) t) k (le_of_suc-le-suc h) ∙ ap f (suc-add i k ∙ sym (add-suc i k))

-- a table that passes the test follows the rule at each entry
pub entry : (f : ℕ → ℕ) (xs : List ℕ) → T (every f 0 xs) → (k : ℕ) → k < length xs → get_or xs k 0 ≡ f k
entry f xs t k h = from f xs 0 t k h ∙ ap f (zero-add k)

-- the first entry is x, and each next one is g of the one before
abbrev pub chained : (ℕ → ℕ) → ℕ → List ℕ → Bool
chained g x [] = true
chained g x (y ∷ ys) = both (eqb y x) (chained g (g y) ys)

-- where g leads from each f k to the next, such a table has f k at k
pub chain : (f g : ℕ → ℕ) → ((k : ℕ) → f (suc k) ≡ g (f k)) → (xs : List ℕ) (i : ℕ) → T (chained g (f i) xs) → (k : ℕ) → k < length xs → get_or xs k 0 ≡ f (i + k)
chain f g s [] i t k h = absurd (not-suc-le-zero h)
chain f g s (y ∷ ys) i t zero h = eqb→eq y (f i) (both_left (eqb y (f i)) (chained g (g y) ys) t) ∙ ap f (sym (add-zero i))
chain f g s (y ∷ ys) i t (suc k) h =
    let e : y ≡ f i = eqb→eq y (f i) (both_left (eqb y (f i)) (chained g (g y) ys) t) in
    let u : T (chained g (f (suc i)) ys) = subst (λ (n : ℕ). T (chained g n ys)) (ap g e ∙ sym (s i)) (both_right (eqb y (f i)) (chained g (g y) ys) t) in
    chain f g s ys (suc i) u k (le_of_suc-le-suc h) ∙ ap f (suc-add i k ∙ sym (add-suc i k))

-- x, g x, g (g x), ..: n of them
abbrev pub iterates : (ℕ → ℕ) → ℕ → ℕ → List ℕ
iterates g x zero = []
iterates g x (suc n) = x ∷ iterates g (g x) n

-- where g leads from each f k to the next, the iterates are f k
pub iterate : (f g : ℕ → ℕ) → ((k : ℕ) → f (suc k) ≡ g (f k)) → (n i k : ℕ) → k < n → get_or (iterates g (f i) n) k 0 ≡ f (i + k)
iterate f g s zero i k h = absurd (not-suc-le-zero h)
iterate f g s (suc n) i zero h = ap f (sym (add-zero i))
iterate f g s (suc n) i (suc k) h =
    ap (λ (x : ℕ). get_or (iterates g x n) k 0) (sym (s i)) ∙ (iterate f g s n (suc i) k (le_of_suc-le-suc h) ∙ ap f (suc-add i k ∙ sym (add-suc i k)))

-- o x, o (g x), o (g (g x)), ..: n of them
abbrev pub images : {X : Type 0} → (ℕ → X) → (ℕ → ℕ) → ℕ → ℕ → List X
images o g x zero = []
images o g x (suc n) = o x ∷ images o g (g x) n

-- and so are the images
pub image : {X : Type 0} (o : ℕ → X) (z : X) (f g : ℕ → ℕ) → ((k : ℕ) → f (suc k) ≡ g (f k)) → (n i k : ℕ) → k < n → get_or (images o g (f i) n) k z ≡ o (f (i + k))
image o z f g s zero i k h = absurd (not-suc-le-zero h)
image o z f g s (suc n) i zero h = ap (λ (m : ℕ). o (f m)) (sym (add-zero i))
image o z f g s (suc n) i (suc k) h =
    ap (λ (x : ℕ). get_or (images o g x n) k z) (sym (s i)) ∙ (image o z f g s n (suc i) k (le_of_suc-le-suc h) ∙ ap (λ (m : ℕ). o (f m)) (suc-add i k ∙ sym (add-suc i k)))
