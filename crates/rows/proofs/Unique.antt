-- Code rows that differ in few places are equal.
use Rattle.std.proofs.Common.{◌≡◌, ℕ, zero, suc, ◌-◌, ◌<◌, ◌≤◌, Bool, true, false, cond, T, eqb, List, [], ◌∷◌, length, take, sym, refl, ap, ◌∙◌, subst, ap₂, zero-le, arith, eqb→eq}
use lib.Dec.{eqb_refl}
use Rattle.galois.specs.Field.{gf_power}
use Rattle.galois.proofs.Laws.{two_power_lt, two_power_distinct}
use Rattle.moments.proofs.Moments as M
use Rattle.rows.specs.Code.{Bytes, CodeRow, differing, CodeRowsEqual, OnlyCompletion}
use Rattle.rows.proofs.Bytes.{Byte, to_byte, add, mul, nil, one, laws, to_byte_eq}
use Rattle.rows.proofs.Ring.{add_self}
use Rattle.rows.proofs.Values.{bytes, place, length_bytes, to_byte_power, value_at}

-- in how many places two rows of bytes differ
abbrev pub apart : List Byte → List Byte → ℕ
apart = M.far Byte add mul nil one laws (to_byte 2)

-- the first 255 powers of 2 are distinct bytes
pub places_distinct : (i j : ℕ) → i < 255 → j < 255 → place i ≡ place j → i ≡ j
places_distinct i j hi hj e =
    two_power_distinct i j hi hj (to_byte_eq (gf_power 2 i) (gf_power 2 j) (two_power_lt i) (two_power_lt j) (to_byte_power 2 i ∙ e ∙ sym (to_byte_power 2 j)))

-- a code row is one as a row of bytes
pub bytes_code : (p : ℕ) (row : List ℕ) → CodeRow p row → M.Code Byte add mul nil one laws (to_byte 2) p (bytes row)
bytes_code p row C j h = sym (value_at row j) ∙ ap to_byte (C j h)

-- rows of bytes are equal where their bytes are
pub bytes_equal : (a b : List ℕ) → Bytes a → Bytes b → bytes a ≡ bytes b → a ≡ b
bytes_equal [] [] ha hb e = refl
bytes_equal [] (y ∷ b) ha hb e = let z : ◌≡◌ {A = ℕ} 0 1 = cc in absurd (omega arith)
bytes_equal (x ∷ a) [] ha hb e = let z : ◌≡◌ {A = ℕ} 0 1 = cc in absurd (omega arith)
bytes_equal (x ∷ a) (y ∷ b) ha hb e =
    let h : to_byte x ≡ to_byte y = cc in
    let t : bytes a ≡ bytes b = cc in
    ap₂ (λ (n : ℕ) (l : List ℕ). n ∷ l) (to_byte_eq x y (ha 0) (hb 0) h) (bytes_equal a b (λ k. ha (suc k)) (λ k. hb (suc k)) t)

-- bytes differ only where the numbers do
pub apart_differing : (a b : List ℕ) → apart (bytes a) (bytes b) ≤ differing a b
unfolding M.far
apart_differing [] b = zero-le
apart_differing (x ∷ a) [] = zero-le
apart_differing (x ∷ a) (y ∷ b) = go (laws.dec (add (to_byte x) (to_byte y))) (eqb x y) (eqb→eq x y) (apart_differing a b)
  where
    go : (d : Dec (add (to_byte x) (to_byte y) ≡ nil)) (t : Bool) → (T t → x ≡ y) → apart (bytes a) (bytes b) ≤ differing a b
        → M.bump Byte add mul nil one laws d (apart (bytes a) (bytes b)) ≤ cond t (differing a b) (suc (differing a b))
    go (yes d) true f h = h
    go (yes d) false f h = omega arith
    go (no d) true f h = absurd (d (ap (λ (z : ℕ). add (to_byte z) (to_byte y)) (f tt) ∙ add_self (to_byte y)))
    go (no d) false f h = omega arith

-- uniqueness
pub code_rows_equal : CodeRowsEqual 255
code_rows_equal p a b ha hb e l ca cb d =
    bytes_equal a b ha hb
    (M.same_code Byte add mul nil one laws (to_byte 2) 255 places_distinct p (bytes a) (bytes b) (length_bytes a ∙ e ∙ sym (length_bytes b)) (let n = length_bytes a in omega arith) (bytes_code p a ca)
    (bytes_code p b cb) (let h = apart_differing a b in omega arith))

-- rows that agree in the first m places differ in the others at most
differing_take : (m : ℕ) (a b : List ℕ) → take m a ≡ take m b → differing a b ≤ length a - m
differing_take m [] b e = zero-le
differing_take m (x ∷ a) [] e = zero-le
differing_take zero (x ∷ a) (y ∷ b) e = go (eqb x y) (differing_take zero a b refl)
  where
    go : (t : Bool) → differing a b ≤ length a - 0 → cond t (differing a b) (suc (differing a b)) ≤ suc (length a) - 0
    go true h = omega arith
    go false h = omega arith
differing_take (suc m) (x ∷ a) (y ∷ b) e =
    let h : x ≡ y = cc in
    let t : take m a ≡ take m b = cc in
    go (eqb x y) (subst (λ (z : ℕ). T (eqb x z)) h (eqb_refl x)) (differing_take m a b t)
  where
    go : (t : Bool) → T t → differing a b ≤ length a - m → cond t (differing a b) (suc (differing a b)) ≤ suc (length a) - suc m
    go true u h = omega arith
    go false u h = absurd u

-- only one way to complete a row
pub only_completion : OnlyCompletion 255
only_completion p a b ha hb e l ca cb t = code_rows_equal p a b ha hb e l ca cb (let d : differing a b ≤ length a - (length a - p) = differing_take (length a - p) a b t in omega arith)
