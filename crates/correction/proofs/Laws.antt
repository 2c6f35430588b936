-- At most one code row is near a row, with marks and without.
use Rattle.std.proofs.Common.{◌≡◌, ℕ, suc, ◌+◌, ◌≤◌, Bool, true, false, cond, T, eqb, List, [], ◌∷◌, map, length, sym, refl, ap, ◌∙◌, zero-le, arith, eqb→eq}
use lib.Dec.{eqb_refl}
use lib.ListN.{length-map}
use Rattle.rows.specs.Code.{differing}
use Rattle.rows.proofs.Unique.{code_rows_equal}
use Rattle.correction.specs.Near.{Near, marked, differing_unmarked, NearMarked, NearLaws}

-- two rows differ in the places in which one of them differs from a third, and in the marked places
differing_around : (ms : List Bool) (r a b : List ℕ) → length r ≡ length ms → length a ≡ length ms → length b ≡ length ms
    → differing a b ≤ differing_unmarked ms r a + differing_unmarked ms r b + marked ms
differing_around [] [] [] b er ea eb = zero-le
differing_around [] (r ∷ rs) a b er ea eb = absurd (omega arith)
differing_around [] [] (x ∷ xs) b er ea eb = absurd (omega arith)
differing_around (m ∷ ms) [] a b er ea eb = absurd (omega arith)
differing_around (m ∷ ms) (r ∷ rs) [] b er ea eb = absurd (omega arith)
differing_around (m ∷ ms) (r ∷ rs) (x ∷ xs) [] er ea eb = absurd (omega arith)
differing_around (m ∷ ms) (r ∷ rs) (x ∷ xs) (y ∷ ys) er ea eb =
    go m (eqb x y) (eqb r x) (eqb r y) (λ u v. (rw (← eqb→eq r x u, ← eqb→eq r y v) (eqb_refl r))) (differing_around ms rs xs ys (omega arith) (omega arith) (omega arith))
  where
    go : (m t u v : Bool) → (T u → T v → T t) → differing xs ys ≤ differing_unmarked ms rs xs + differing_unmarked ms rs ys + marked ms
        → cond t (differing xs ys) (suc (differing xs ys))
        ≤ cond m (differing_unmarked ms rs xs) (cond u (differing_unmarked ms rs xs) (suc (differing_unmarked ms rs xs)))
        + cond m (differing_unmarked ms rs ys) (cond v (differing_unmarked ms rs ys) (suc (differing_unmarked ms rs ys))) + cond m (suc (marked ms)) (marked ms)
    go true true u v f i = omega arith
    go true false u v f i = omega arith
    go false true true true f i = i
    go false true true false f i = omega arith
    go false true false true f i = omega arith
    go false true false false f i = omega arith
    go false false true true f i = absurd (f tt tt)
    go false false true false f i = omega arith
    go false false false true f i = omega arith
    go false false false false f i = omega arith

one_near_marked : (p : ℕ) (ms : List Bool) (row a b : List ℕ) → length row ≤ 255 → length ms ≡ length row → NearMarked p ms row a → NearMarked p ms row b → a ≡ b
one_near_marked p ms row a b hn hm A B =
    let d = differing_around ms row a b (sym hm) (A.long ∙ sym hm) (B.long ∙ sym hm) in
    let x = A.near in
    let y = B.near in
    let l = A.long in
    code_rows_equal p a b A.byte B.byte (A.long ∙ sym B.long) (omega arith) A.code B.code (omega arith)

-- no place is marked
unmarked : List ℕ → List Bool
unmarked = map (λ _. false)

unmarked_length : (row : List ℕ) → length (unmarked row) ≡ length row
unfolding unmarked
unmarked_length row = length-map row (λ _. false)

unmarked_none : (row : List ℕ) → marked (unmarked row) ≡ 0
unfolding unmarked
unmarked_none [] = refl
unmarked_none (x ∷ xs) = unmarked_none xs

unmarked_differing : (row c : List ℕ) → differing_unmarked (unmarked row) row c ≡ differing row c
unfolding unmarked
unmarked_differing [] c = refl
unmarked_differing (x ∷ xs) [] = refl
unmarked_differing (x ∷ xs) (y ∷ ys) = ap (λ (n : ℕ). cond (eqb x y) n (suc n)) (unmarked_differing xs ys)

near_unmarked : (p : ℕ) (row c : List ℕ) → Near p row c → NearMarked p (unmarked row) row c
near_unmarked p row c N =
    record {
      long = N.long;
      byte = N.byte;
      code = N.code;
      near = let n = N.near in let m = unmarked_none row in let d = unmarked_differing row c in omega arith;
    }

-- the laws, for rows of up to 255 bytes
pub near_laws : NearLaws 255
near_laws =
    record {
      code_rows_equal = code_rows_equal;
      one_near = λ p row a b h A B. one_near_marked p (unmarked row) row a b h (unmarked_length row) (near_unmarked p row a A) (near_unmarked p row b B);
      one_near_marked = one_near_marked;
    }
