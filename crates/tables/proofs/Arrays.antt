-- The elements of an array that `array::from_fn` made.
use Rattle.std.proofs.Common.{◌≡◌, ℕ, zero, suc, ◌+◌, ◌<◌, ◌≤◌, List, get_or, sym, ◌∙◌, subst, ⊎_elim, arith}
use denote.Param.Members.{Mut, Called}
use Rattle.std.specs.Array.{IsFromFnResult, IsFromFnResultFrom}
use Rattle.std.proofs.lemmas.Bool.{cases_eq}

from : {F B : Type 0} (g : Mut F (ℕ × Unit {0}) B) (P : ℕ → B → Type 0) (f : F) → ((i : ℕ) (y : B) (q : F) → Called g f (i, tt) y q → P i y × (q ≡ f)) → (ys : List B) (i n : ℕ) → IsFromFnResultFrom g f ys i n → (k : ℕ) (d : B) → i ≤ k → k < i + n → P k (get_or ys k d)
from g P f call ys i zero e k d low high = absurd (omega arith)
from g P f call ys i (suc n) (q, y, at, gave, more) k d low high =
    let one = call i y q gave in
    ⊎_elim
    (λ (here : k ≡ i). subst (λ j. P j (get_or ys j d)) (sym here) (subst (P i) (sym (at.1 d)) one.0))
    (λ (later : k ≡ i → ⊥).
    from g P q (λ j z r c. let o = call j z r (subst (λ x. Called g x (j, tt) z r) one.1 c) in (o.0, o.1 ∙ sym one.1)) ys (i + 1) n more k d (omega (arith, later)) (omega arith))
    (cases_eq k i)

-- what each call gives is true of its element, where no call changes what the closure holds
pub each_of : {F B : Type 0} (g : Mut F (ℕ × Unit {0}) B) (P : ℕ → B → Type 0) (f : F) → ((i : ℕ) (y : B) (q : F) → Called g f (i, tt) y q → P i y × (q ≡ f)) → (ys : List B) (n : ℕ) → IsFromFnResult g f ys n → (k : ℕ) (d : B) → k < n → P k (get_or ys k d)
each_of g P f call ys n r k d h = from g P f call ys 0 n r.each k d (omega arith) (omega arith)
