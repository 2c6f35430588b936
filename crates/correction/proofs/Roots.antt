-- The search for roots: the terms of a locator at each place, from the first byte's to the last, and the roots that were found.
use Rattle.std.proofs.Common.{◌≡◌, ℕ, zero, suc, ◌+◌, ◌-◌, ◌*◌, ◌/◌, ◌%◌, ◌<◌, ◌≤◌, ◌≢◌, List, [], ◌∷◌, ◌++◌, length, get_or, take, sym, refl, ap, ◌∙◌, ap₂, subst, get_or-take, append_assoc, add-mul, mul-zero, mul-suc, arith, lit<, length-append, length-take-le}
use native.Mathlib.Decide.{dec_lt}
use borrow.Rule.Slice.PartMut.{put_mid, post_of}
use Rattle.std.proofs.lemmas.List.{map_push, get_or_append_left, get_or-append-add}
use Rattle.galois.specs.Field.{gf_mul, gf_power}
use Rattle.galois.proofs.Laws.{two_power_255}
use Rattle.moments.proofs.Moments as M
use Rattle.rows.proofs.Bytes.{Byte, to_byte, add, mul, nil, one, laws, to_byte_xor, to_byte_mul, to_byte_eq}
use Rattle.rows.proofs.Ring.{mul_one}
use Rattle.rows.proofs.Unique.{places_distinct}
use Rattle.rows.proofs.Values.{bytes, power, place, length_bytes, to_byte_power, power_add}
use Rattle.correction.specs.Equations.{Monic, sum_on}
use Rattle.correction.specs.Polynomials.{entry, polynomial, value_of, roots_of, Values}
use Rattle.correction.proofs.Syndromes.{polynomial_length, polynomial_at}

pub one_nil : one ≢ nil
one_nil e = let z : ◌≡◌ {A = ℕ} 1 0 = to_byte_eq 1 0 (lit< tt) (lit< tt) e in omega arith

-- ---- powers of 2 come round after 255
period : (q : ℕ) → place (255 * q) ≡ one
unfolding M.pow
period zero = refl
period (suc q) = ap place (mul-suc 255 q) ∙ power_add (to_byte 2) (255 * q) 255 ∙ ap₂ mul (period q) (sym (to_byte_power 2 255) ∙ ap to_byte two_power_255) ∙ laws.one_mul one

around : (k : ℕ) → place (k % 255) ≡ place k
around k =
    let e : k % 255 + 255 * (k / 255) ≡ k = omega arith in
    sym (ap place (sym e) ∙ power_add (to_byte 2) (k % 255) (255 * (k / 255)) ∙ ap (mul (place (k % 255))) (period (k / 255)) ∙ mul_one (place (k % 255)))

power_power : (x : Byte) (m j : ℕ) → power (power x m) j ≡ power x (m * j)
unfolding M.pow
power_power x m zero = ap (power x) (sym (mul-zero m))
power_power x m (suc j) = ap (λ (y : Byte). mul y (power x m)) (power_power x m j) ∙ sym (power_add x (m * j) m) ∙ ap (power x) (sym (mul-suc m j))

-- ---- the terms at the place 2^m: entry j of e is that of v times the j-th power of 2^m
abbrev pub Terms : List ℕ → ℕ → ℕ → List ℕ → Type 0
Terms v d m e = (j : ℕ) → j < d + 1 → entry e j ≡ mul (entry v j) (power (place m) j)

pub terms_start : (v e : List ℕ) (d m : ℕ) → ((j : ℕ) → j < d + 1 → get_or e j 0 ≡ gf_mul (get_or v j 0) (gf_power 2 (m * j % 255))) → Terms v d m e
terms_start v e d m h j q =
    ap to_byte (h j q) ∙ to_byte_mul (get_or v j 0) (gf_power 2 (m * j % 255)) ∙ ap (mul (entry v j)) (to_byte_power 2 (m * j % 255) ∙ around (m * j) ∙ sym (power_power (to_byte 2) m j))

-- q places on: term j times the (255 - q j)-th power of 2
term_on : (v e : List ℕ) (d q m j y : ℕ) → q * j ≤ 255 → Terms v d (m + q) e → j < d + 1 → y ≡ gf_mul (get_or e j 0) (gf_power 2 (255 - q * j)) → to_byte y ≡ mul (entry v j) (power (place m) j)
term_on v e d q m j y hq T h ey =
    let s : (m + q) * j + (255 - q * j) ≡ m * j + 255 * 1 = let z : (m + q) * j ≡ m * j + q * j = add-mul m q j in omega arith in
    ap to_byte ey ∙ to_byte_mul (get_or e j 0) (gf_power 2 (255 - q * j)) ∙ ap₂ mul (T j h) (to_byte_power 2 (255 - q * j))
    ∙ laws.mul_assoc (entry v j) (power (place (m + q)) j) (place (255 - q * j))
    ∙ ap (mul (entry v j))
    (ap (λ (y : Byte). mul y (place (255 - q * j))) (power_power (to_byte 2) (m + q) j) ∙ sym (power_add (to_byte 2) ((m + q) * j) (255 - q * j)) ∙ ap place s
    ∙ power_add (to_byte 2) (m * j) (255 * 1) ∙ ap (mul (place (m * j))) (period 1) ∙ mul_one (place (m * j)) ∙ sym (power_power (to_byte 2) m j))

pub terms_on : (v e w : List ℕ) (d q m : ℕ) → ((j : ℕ) → j < d + 1 → q * j ≤ 255) → Terms v d (m + q) e
    → ((j : ℕ) → j < d + 1 → get_or w j 0 ≡ gf_mul (get_or e j 0) (gf_power 2 (255 - q * j))) → Terms v d m w
terms_on v e w d q m hq T ew j h = term_on v e d q m j (get_or w j 0) (hq j h) T h (ew j h)

to_byte_sum : (q m : ℕ) (e : List ℕ) → to_byte (sum_on q m e) ≡ M.fsum Byte add mul nil one laws m (λ j. to_byte (gf_mul (get_or e j 0) (gf_power 2 (255 - q * j))))
unfolding sum_on M.fsum
to_byte_sum q zero e = refl
to_byte_sum q (suc m) e =
    to_byte_xor (sum_on q m e) (gf_mul (get_or e m 0) (gf_power 2 (255 - q * m))) ∙ ap (λ (y : Byte). add y (to_byte (gf_mul (get_or e m 0) (gf_power 2 (255 - q * m))))) (to_byte_sum q m e)

-- the terms together are the locator's value
pub sum_is_value : (v e : List ℕ) (d q m : ℕ) → d + 1 ≤ length v → ((j : ℕ) → j < d + 1 → q * j ≤ 255) → Terms v d (m + q) e → value_of (polynomial v d) (place m) ≡ to_byte (sum_on q (d + 1) e)
sum_is_value v e d q m h hq T =
    let cs : List Byte = polynomial v d in
    let X : Byte = place m in
    M.eval_fsum Byte add mul nil one laws cs X
    ∙ ap (λ (n : ℕ). M.fsum Byte add mul nil one laws n (λ j. mul (get_or cs j nil) (power X j))) (polynomial_length v d h)
    ∙ M.fsum_cong Byte add mul nil one laws (d + 1) (λ j. mul (get_or cs j nil) (power X j)) (λ j. to_byte (gf_mul (get_or e j 0) (gf_power 2 (255 - q * j))))
    (λ k l. ap (λ (y : Byte). mul y (power X k)) (polynomial_at v d h k l) ∙ sym (term_on v e d q m k (gf_mul (get_or e k 0) (gf_power 2 (255 - q * k))) (hq k l) T l refl))
    ∙ sym (to_byte_sum q (d + 1) e)

-- ---- values that are written one after another
-- y is the polynomial's value at the place of byte k, where there is such a byte
abbrev pub Value : List ℕ → ℕ → ℕ → ℕ → ℕ → Type 0
Value v d n k y = k < n → value_of (polynomial v d) (place (n - 1 - k)) ≡ to_byte y

-- a value q places on, from the terms at place i
pub value_on : (v : List ℕ) (d n i q : ℕ) (e : List ℕ) (y : ℕ) → d + 1 ≤ length v → ((j : ℕ) → j < d + 1 → (q + 1) * j ≤ 255) → (i < n → Terms v d (n - i) e) → y ≡ sum_on (q + 1) (d + 1) e
    → Value v d n (i + q) y
value_on v d n i q e y long hq T ey h =
    let z : n - i ≡ n - 1 - (i + q) + (q + 1) = omega arith in
    sum_is_value v e d (q + 1) (n - 1 - (i + q)) long hq (subst (λ (m : ℕ). Terms v d m e) z (T (omega arith))) ∙ ap to_byte (sym ey)

-- the values r written behind the first i
pub values_more : (v : List ℕ) (d n i m : ℕ) (l r : List ℕ) → i ≤ length l → ((k : ℕ) → k < i → Value v d n k (get_or l k 0)) → ((q : ℕ) → q < length r → Value v d n (i + q) (get_or r q 0))
    → (k : ℕ) → k < i + length r → Value v d n k (get_or (put_mid i m l r) k 0)
values_more v d n i m l r h old new k b =
    let rest = post_of i m l in
    let li : length (take i l) ≡ i = length-take-le i l h in
    elim (dec_lt k i) [
      | yes q ↦ rw (get_or_append_left (take i l) (r ++ rest) 0 k (omega arith) ∙ get_or-take i l k 0 q) (old k q)
      | no q ↦
          let j : ℕ = k - i in
          let e : k ≡ i + j = omega arith in
          let there : get_or (put_mid i m l r) (i + j) 0 ≡ get_or r j 0 =
          ap (λ (x : ℕ). get_or (put_mid i m l r) (x + j) 0) (sym li) ∙ get_or-append-add (take i l) (r ++ rest) j 0 ∙ get_or_append_left r rest 0 j (omega arith) in
          rw (e, there) (new j (omega arith))
    ]

-- a value among the first n alone
pub values_taken : (cs : List Byte) (n : ℕ) (l : List ℕ) (i : ℕ) → Values cs n l → i < n → value_of cs (place (n - 1 - i)) ≡ to_byte (get_or (take n l) i 0)
values_taken cs n l i V h = V i h ∙ ap to_byte (sym (get_or-take n l i 0 h))

-- ---- a locator of degree d has at most d roots
nils_at : (cs : List Byte) → M.Nils Byte add mul nil one laws cs → (j : ℕ) → get_or cs j nil ≡ nil
nils_at [] n j = refl
nils_at (c ∷ cs) n zero = n.0
nils_at (c ∷ cs) n (suc j) = nils_at cs n.1 j

pub few_roots : (v : List ℕ) (d n : ℕ) → d + 1 ≤ length v → n ≤ 255 → Monic d v → length (roots_of (polynomial v d) n) ≤ d
few_roots v d n long h w =
    let e = polynomial_length v d long in
    let q : length (roots_of (polynomial v d) n) < length (polynomial v d) =
    M.roots_few Byte add mul nil one laws (to_byte 2) 255 places_distinct (polynomial v d) n h
    (λ z. one_nil (sym (polynomial_at v d long d (omega arith) ∙ ap to_byte w.0) ∙ nils_at (polynomial v d) z d)) in
    omega arith

-- ---- the roots among the first i places, and those that are left
pub record Found (v : List ℕ) (d n i : ℕ) (at : List ℕ) : Type 0 where
  pub few : length at ≤ d
  pub are : bytes at ++ roots_of (polynomial v d) (n - i) ≡ roots_of (polynomial v d) n

module _ (v : List ℕ) (d n i : ℕ) (y : ℕ) (hi : i < n) (there : value_of (polynomial v d) (place (n - 1 - i)) ≡ to_byte y) where
  -- one place more is a root
  pub found_hit : (at : List ℕ) (x : ℕ) → d + 1 ≤ length v → n ≤ 255 → x ≡ gf_power 2 (n - 1 - i) → Monic d v → y ≡ 0
      → Found v d n i at → (length at < d) × Found v d n (i + 1) (at ++ x ∷ [])
  found_hit at x long hn ex w z S =
      let cs : List Byte = polynomial v d in
      let m : ℕ = n - 1 - i in
      let now : n - i ≡ suc m = omega arith in
      let later : n - (i + 1) ≡ m = omega arith in
      let hit : roots_of cs (suc m) ≡ place m ∷ roots_of cs m = M.roots_hit Byte add mul nil one laws (to_byte 2) cs m (there ∙ ap to_byte z) in
      let f : length (roots_of cs n) ≤ d = few_roots v d n long hn w in
      let less : length at + suc (length (roots_of cs m)) ≡ length (roots_of cs n) =
      ap (λ (k : ℕ). k + suc (length (roots_of cs m))) (sym (length_bytes at))
      ∙ sym (length-append (bytes at) (place m ∷ roots_of cs m))
      ∙ ap (λ (l : List Byte). length (bytes at ++ l)) (sym (ap (roots_of cs) now ∙ hit)) ∙ ap length S.are in (
        omega arith,
        record {
          few = let one_more = length-append at (x ∷ []) in omega arith;
          are =
              ap₂ (λ (a : List Byte) (k : ℕ). a ++ roots_of cs k) (map_push to_byte at x) later
              ∙ append_assoc (bytes at) (to_byte x ∷ []) (roots_of cs m)
              ∙ ap (λ (b : Byte). bytes at ++ (b ∷ roots_of cs m)) (ap to_byte ex ∙ to_byte_power 2 m)
              ∙ ap (λ (a : List Byte). bytes at ++ a) (sym (ap (roots_of cs) now ∙ hit)) ∙ S.are;
        },
      )

  -- or it is not
  pub found_miss : (at : List ℕ) → y ≢ 0 → y < 256 → Found v d n i at → Found v d n (i + 1) at
  found_miss at z hy S =
      let cs : List Byte = polynomial v d in
      let m : ℕ = n - 1 - i in
      let now : n - i ≡ suc m = omega arith in
      let later : n - (i + 1) ≡ m = omega arith in
      record {
        few = S.few;
        are =
            ap (λ (a : List Byte). bytes at ++ a)
            (ap (roots_of cs) later ∙ sym (ap (roots_of cs) now ∙ M.roots_miss Byte add mul nil one laws (to_byte 2) cs m (λ q. z (to_byte_eq y 0 hy (lit< tt) (sym there ∙ q)))))
            ∙ S.are;
      }
