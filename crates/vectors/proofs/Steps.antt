-- Reading digits two by two: what is read so far, and what is left to read.
use Rattle.std.proofs.Common.{◌≡◌, ℕ, zero, suc, ◌*◌, ◌/◌, ◌%◌, ◌≢◌, List, [], ◌∷◌, ◌++◌, length, get_or, drop, Some, None, Option, sym, refl, ap, ◌∙◌, append_assoc, arith}
use Rattle.std.specs.Option.{option_map}
use Rattle.std.specs.Simd.{first_chunks}
use Rattle.vectors.specs.Hex.{pair_value, joined, hex_value}

-- bytes in front of what the rest gives
abbrev pub before : List ℕ → Option (List ℕ) → Option (List ℕ)
before xs o = option_map (λ bs. xs ++ bs) o

-- the bytes of pairs of digits
abbrev pub pairs_value : List (List ℕ) → Option (List ℕ)
pairs_value [] = Some []
pairs_value (p ∷ ps) = joined (pair_value (get_or p 0 0) (get_or p 1 0)) (pairs_value ps)

before_none : (o : Option (List ℕ)) → before [] o ≡ o
before_none None = refl
before_none (Some bs) = refl

joined_none : (b : Option ℕ) → joined b None ≡ None
joined_none None = refl
joined_none (Some x) = refl

-- an odd number of digits stands for nothing
pub odd_none : (cs : List ℕ) → length cs % 2 ≢ 0 → hex_value cs ≡ None
unfolding hex_value
odd_none [] h = absurd (omega (arith, h))
odd_none (a ∷ []) h = refl
odd_none (a ∷ (b ∷ cs)) h = ap (joined (pair_value a b)) (odd_none cs (omega (arith, h))) ∙ joined_none (pair_value a b)

-- digits read two by two
pub by_pairs : (k : ℕ) (cs : List ℕ) → length cs ≡ 2 * k → hex_value cs ≡ pairs_value (first_chunks 2 k cs)
unfolding hex_value
by_pairs zero [] h = refl
by_pairs zero (a ∷ cs) h = absurd (omega arith)
by_pairs (suc k) [] h = absurd (omega arith)
by_pairs (suc k) (a ∷ []) h = absurd (omega arith)
by_pairs (suc k) (a ∷ (b ∷ cs)) h = ap (joined (pair_value a b)) (by_pairs k cs (omega arith))

-- a byte goes to the end of what is read so far
pub one_more : (xs : List ℕ) (x : ℕ) (o : Option (List ℕ)) → before xs (joined (Some x) o) ≡ before (xs ++ (x ∷ [])) o
one_more xs x None = refl
one_more xs x (Some bs) = ap Some (sym (append_assoc xs (x ∷ []) bs))

-- nothing is read yet
pub at_start : (cs xs : List ℕ) (ps : List (List ℕ)) → length cs % 2 ≡ 0 → ps ≡ first_chunks 2 (length cs / 2) cs → xs ≡ []
    → hex_value cs ≡ before xs (pairs_value (drop 0 ps))
at_start cs xs ps h e f = by_pairs (length cs / 2) cs (omega arith) ∙ rw (e, f) (sym (before_none (pairs_value (first_chunks 2 (length cs / 2) cs))))
