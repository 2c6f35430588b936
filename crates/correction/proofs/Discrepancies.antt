-- Discrepancies as sums in the field: of a polynomial with a multiple of another, and of a short polynomial.
use Rattle.std.proofs.Common.{◌≡◌, ℕ, zero, suc, ◌+◌, ◌-◌, ◌<◌, ◌≤◌, List, length, get_or, take, drop, length-take-le, get_or-take, sym, refl, ap, ◌∙◌, ap₂, add-zero, zero-add, add-suc, add-one, arith, lit<}
use lib.Bits.{bit_xor, xor_lt, xor_zero_r}
use Rattle.std.proofs.lemmas.List.{get_or-drop}
use Rattle.galois.specs.Field.{gf_mul}
use Rattle.galois.proofs.Laws.{mul_lt, mul_zero_right}
use Rattle.moments.proofs.Moments as M
use Rattle.rows.specs.Code.{Bytes}
use Rattle.rows.proofs.Bytes.{Byte, to_byte, add, mul, nil, one, laws, to_byte_xor, to_byte_mul, to_byte_eq}
use Rattle.correction.specs.Equations.{discrepancy}

discrepancy_lt : (m : ℕ) (v s : List ℕ) (i : ℕ) → Bytes s → discrepancy m v s i < 256
unfolding discrepancy
discrepancy_lt zero v s i b = lit< tt
discrepancy_lt (suc m) v s i b = xor_lt 8 (discrepancy m v s i) (gf_mul (get_or s (i + m) 0) (get_or v m 0)) (discrepancy_lt m v s i b) (mul_lt (get_or s (i + m) 0) (get_or v m 0) (b (i + m)))

-- coefficients that are 0 add nothing
pub discrepancy_short : (v s : List ℕ) (i j m : ℕ) → j ≤ m → ((k : ℕ) → j < k → get_or v k 0 ≡ 0) → discrepancy (m + 1) v s i ≡ discrepancy (j + 1) v s i
unfolding discrepancy
discrepancy_short v s i j m h z = let e : m + 1 ≡ suc j + (m - j) = omega arith in ap (λ (n : ℕ). discrepancy n v s i) e ∙ go (m - j) ∙ ap (λ (n : ℕ). discrepancy n v s i) (sym (add-one j))
  where
    go : (d : ℕ) → discrepancy (suc j + d) v s i ≡ discrepancy (suc j) v s i
    go zero = ap (λ (n : ℕ). discrepancy n v s i) (add-zero (suc j))
    go (suc d) =
        ap (λ (n : ℕ). discrepancy n v s i) (add-suc (suc j) d)
        ∙ ap (λ (x : ℕ). bit_xor (discrepancy (suc j + d) v s i) (gf_mul (get_or s (i + (suc j + d)) 0) x)) (z (suc j + d) (omega arith))
        ∙ ap (bit_xor (discrepancy (suc j + d) v s i)) (mul_zero_right (get_or s (i + (suc j + d)) 0)) ∙ xor_zero_r (discrepancy (suc j + d) v s i) ∙ go d

-- entry j of the list, as an element of the field
unfoldable pub entry_at : List ℕ → ℕ → Byte
entry_at l j = to_byte (get_or l j 0)

-- the sum of f over the first m numbers
unfoldable pub sum_to : ℕ → (ℕ → Byte) → Byte
sum_to = M.fsum Byte add mul nil one laws

pub to_byte_discrepancy : (m : ℕ) (v s : List ℕ) (i : ℕ) → to_byte (discrepancy m v s i) ≡ sum_to m (λ j. mul (entry_at v j) (entry_at s (i + j)))
unfolding discrepancy sum_to M.fsum entry_at
to_byte_discrepancy zero v s i = refl
to_byte_discrepancy (suc m) v s i =
    to_byte_xor (discrepancy m v s i) (gf_mul (get_or s (i + m) 0) (get_or v m 0))
    ∙ ap₂ add (to_byte_discrepancy m v s i) (to_byte_mul (get_or s (i + m) 0) (get_or v m 0) ∙ laws.mul_comm (to_byte (get_or s (i + m) 0)) (to_byte (get_or v m 0)))

-- r is v with c times u added
module _ (m : ℕ) (s r v u : List ℕ) (c : ℕ) (e : (k : ℕ) → k < m → get_or r k 0 ≡ bit_xor (get_or v k 0) (gf_mul c (get_or u k 0))) where
  discrepancy_plus : (i : ℕ) → to_byte (discrepancy m r s i) ≡ add (to_byte (discrepancy m v s i)) (mul (to_byte c) (to_byte (discrepancy m u s i)))
  unfolding entry_at sum_to
  discrepancy_plus i =
      to_byte_discrepancy m r s i
      ∙ M.fsum_cong Byte add mul nil one laws m (λ j. mul (entry_at r j) (entry_at s (i + j))) (λ j. mul (add (entry_at v j) (mul (to_byte c) (entry_at u j))) (entry_at s (i + j)))
      (λ k h. ap (λ (x : Byte). mul x (entry_at s (i + k)))
      (ap to_byte (e k h) ∙ to_byte_xor (get_or v k 0) (gf_mul c (get_or u k 0)) ∙ ap (add (entry_at v k)) (to_byte_mul c (get_or u k 0))))
      ∙ M.fsum_plus Byte add mul nil one laws m (to_byte c) (entry_at u) (entry_at v) (λ j. entry_at s (i + j))
      ∙ ap₂ (λ (x y : Byte). add x (mul (to_byte c) y)) (sym (to_byte_discrepancy m v s i)) (sym (to_byte_discrepancy m u s i))

  -- an equation that both solve
  pub plus_solves : Bytes s → (i : ℕ) → discrepancy m v s i ≡ 0 → discrepancy m u s i ≡ 0 → discrepancy m r s i ≡ 0
  plus_solves h i p q =
      to_byte_eq (discrepancy m r s i) 0 (discrepancy_lt m r s i h) (lit< tt)
      (discrepancy_plus i ∙ M.both_nil Byte add mul nil one laws (to_byte c) (to_byte (discrepancy m v s i)) (to_byte (discrepancy m u s i)) (ap to_byte p) (ap to_byte q))

  -- an equation that neither solves, with the multiple that takes the discrepancy away
  pub plus_clears : Bytes s → (i b : ℕ) → c ≡ gf_mul (discrepancy m v s i) b → gf_mul (discrepancy m u s i) b ≡ 1 → discrepancy m r s i ≡ 0
  plus_clears h i b p q =
      to_byte_eq (discrepancy m r s i) 0 (discrepancy_lt m r s i h) (lit< tt)
      (discrepancy_plus i ∙ ap (λ (x : Byte). add (to_byte (discrepancy m v s i)) (mul x (to_byte (discrepancy m u s i)))) (ap to_byte p ∙ to_byte_mul (discrepancy m v s i) b)
      ∙ M.clears Byte add mul nil one laws (to_byte (discrepancy m v s i)) (to_byte (discrepancy m u s i)) (to_byte b) (sym (to_byte_mul (discrepancy m u s i) b) ∙ ap to_byte q))

-- one product more
pub discrepancy_more : (v s : List ℕ) (m n sum x y z : ℕ) → sum ≡ discrepancy m v s 0 → x ≡ get_or s m 0 → y ≡ get_or v m 0 → z ≡ gf_mul x y → n ≡ m + 1 → bit_xor sum z ≡ discrepancy n v s 0
unfolding discrepancy
discrepancy_more v s m n sum x y z e ex ey ez en =
    ap₂ bit_xor e (ez ∙ ap₂ gf_mul (ex ∙ ap (λ (k : ℕ). get_or s k 0) (sym (zero-add m))) ey) ∙ ap (λ (k : ℕ). discrepancy k v s 0) (sym (en ∙ add-one m))

-- of the first m coefficients alone, and of n syndromes from number i on
pub discrepancy_at : (v s : List ℕ) (m n i : ℕ) → m ≤ length v → m ≤ n → discrepancy (length (take m v)) (take m v) (take n (drop i s)) 0 ≡ discrepancy m v s i
unfolding discrepancy
discrepancy_at v s m n i h l = ap (λ (k : ℕ). discrepancy k (take m v) (take n (drop i s)) 0) (length-take-le m v h) ∙ go m (omega arith)
  where
    go : (k : ℕ) → k ≤ m → discrepancy k (take m v) (take n (drop i s)) 0 ≡ discrepancy k v s i
    go zero q = refl
    go (suc k) q =
        ap₂ bit_xor (go k (omega arith))
        (ap₂ gf_mul (ap (λ (j : ℕ). get_or (take n (drop i s)) j 0) (zero-add k) ∙ get_or-take n (drop i s) k 0 (omega arith) ∙ get_or-drop i s k 0) (get_or-take m v k 0 (omega arith)))
