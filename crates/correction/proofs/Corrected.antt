-- The corrected row: byte for byte, in how many places it differs, and that no other code row is near.
use Rattle.std.proofs.Common.{◌≡◌, ℕ, suc, ◌+◌, ◌-◌, ◌/◌, ◌<◌, ◌≤◌, Bool, true, false, cond, not, T, eqb, ◌==◌, count_by, List, [], ◌∷◌, length, get_or, set, sym, refl, ap, ◌∙◌, ap₂, arith, eqb→eq, get_or-set_other, get_or-set_same}
use native.Mathlib.Decide.{ℕ_discrete}
use lib.Bits.{bit_xor}
use Rattle.std.specs.List.{zip}
use Rattle.std.proofs.lemmas.List.Sums.{sum_by-cons}
use Rattle.galois.specs.Field.{gf_power}
use Rattle.moments.proofs.Moments as M
use Rattle.rows.specs.Code.{Bytes, row_value, differing}
use Rattle.rows.proofs.Bytes.{Byte, to_byte, add, mul, nil, one, laws, to_byte_xor}
use Rattle.rows.proofs.Ring.{add_nil}
use Rattle.rows.proofs.Unique.{places_distinct, bytes_code, bytes_equal, apart, apart_differing}
use Rattle.rows.proofs.Values.{bytes, place, length_bytes, value_at}
use Rattle.correction.specs.Equations.{Locates}
use Rattle.correction.specs.Near.{Near}
use Rattle.correction.specs.Polynomials.{entry, polynomial, roots_of, correction_at, corrected}
use Rattle.correction.proofs.Roots.{one_nil, few_roots}
use Rattle.correction.proofs.Syndromes.{polynomial_length, solves_hank}

-- ---- counting differences
-- they are the pairs of different bytes
pub differing_counted : (a b : List ℕ) → count_by (λ (p : ℕ × ℕ). not (p.0 == p.1)) (zip a b) ≡ differing a b
differing_counted [] b = refl
differing_counted (x ∷ a) [] = refl
differing_counted (x ∷ a) (y ∷ b) = sum_by-cons (λ (p : ℕ × ℕ). cond (not (p.0 == p.1)) 1 0) (x, y) (zip a b) ∙ go (eqb x y) (differing_counted a b)
  where
    go : (t : Bool) → count_by (λ (p : ℕ × ℕ). not (p.0 == p.1)) (zip a b) ≡ differing a b → cond (not t) 1 0 + count_by (λ (p : ℕ × ℕ). not (p.0 == p.1)) (zip a b) ≡ cond t (differing a b) (suc (differing a b))
    go true e = omega arith
    go false e = omega arith

-- rows of one length that differ nowhere are equal
pub differing_nowhere : (a b : List ℕ) → length a ≡ length b → differing a b ≡ 0 → a ≡ b
differing_nowhere [] [] e d = refl
differing_nowhere [] (y ∷ b) e d = absurd (omega arith)
differing_nowhere (x ∷ a) [] e d = absurd (omega arith)
differing_nowhere (x ∷ a) (y ∷ b) e d = go (eqb x y) (eqb→eq x y) (differing_nowhere a b (omega arith)) d
  where
    go : (t : Bool) → (T t → x ≡ y) → (differing a b ≡ 0 → a ≡ b) → cond t (differing a b) (suc (differing a b)) ≡ 0 → ◌≡◌ {A = List ℕ} (x ∷ a) (y ∷ b)
    go true f g z = ap₂ (λ (n : ℕ) (l : List ℕ). n ∷ l) (f tt) (g z)
    go false f g z = absurd (omega arith)

-- ---- the corrected row
-- byte for byte: the power of 2 that belongs to byte k of n is n - 1 - k
pub corrected_entries : (f : Byte → Byte) (old new : List ℕ) → length new ≡ length old
    → ((k : ℕ) → k < length old → to_byte (get_or new k 0) ≡ add (to_byte (get_or old k 0)) (f (place (length old - 1 - k)))) → bytes new ≡ corrected f (bytes old)
unfolding M.mended
corrected_entries f [] [] e h = refl
corrected_entries f [] (y ∷ ys) e h = absurd (omega arith)
corrected_entries f (x ∷ xs) [] e h = absurd (omega arith)
corrected_entries f (x ∷ xs) (y ∷ ys) e h =
    let n : suc (length xs) - 1 - 0 ≡ length xs = omega arith in
    ap₂ (λ (u : Byte) (l : List Byte). u ∷ l)
    (h 0 (omega arith) ∙ ap (λ (k : ℕ). add (to_byte x) (f (place k))) (n ∙ sym (length_bytes xs)))
    (corrected_entries f xs ys (omega arith)
    (λ k l. h (suc k) (omega arith) ∙ ap (λ (j : ℕ). add (to_byte (get_or xs k 0)) (f (place j))) (let q : suc (length xs) - 1 - suc k ≡ length xs - 1 - k = omega arith in q)))

-- the row old, corrected before place i
pub record CorrectedTo (f : Byte → Byte) (old : List ℕ) (i : ℕ) (new : List ℕ) : Type 0 where
  pub done : (k : ℕ) → k < i → to_byte (get_or new k 0) ≡ add (to_byte (get_or old k 0)) (f (place (length old - 1 - k)))
  pub left : (k : ℕ) → i ≤ k → get_or new k 0 ≡ get_or old k 0

module _ (f : Byte → Byte) (old new : List ℕ) (i : ℕ) (S : CorrectedTo f old i new) where
  -- nothing is added at place i
  pub corrected_kept : f (place (length old - 1 - i)) ≡ nil → CorrectedTo f old (i + 1) new
  corrected_kept e =
      record {
        done = λ k h. elim (ℕ_discrete k i) [
          | yes q ↦ rw q (ap to_byte (S.left i (omega arith)) ∙ sym (add_nil (to_byte (get_or old i 0))) ∙ ap (add (to_byte (get_or old i 0))) (sym e))
          | no q ↦ S.done k (omega arith)
        ];
        left = λ k h. S.left k (omega arith);
      }

  -- y is added at place i
  pub corrected_added : (y : ℕ) → i < length new → to_byte y ≡ f (place (length old - 1 - i)) → CorrectedTo f old (i + 1) (set new i (bit_xor (get_or new i 0) y))
  corrected_added y l e =
      let z : ℕ = bit_xor (get_or new i 0) y in
      record {
        done = λ k h. elim (ℕ_discrete k i) [
          | yes q ↦ rw (q, get_or-set_same new i z 0 l) (to_byte_xor (get_or new i 0) y ∙ ap₂ add (ap to_byte (S.left i (omega arith))) e)
          | no q ↦ rw (get_or-set_other new i k z 0 q) (S.done k (omega arith))
        ];
        left = λ k h. get_or-set_other new i k z 0 (λ q. absurd (omega arith)) ∙ S.left k (omega arith);
      }

-- a code row near the row is the corrected row
pub near_is_corrected : (p : ℕ) (row out s v places c : List ℕ) (d : ℕ) → length row ≤ 255 → 2 ≤ p → d + 1 ≤ length v
    → ((k : ℕ) → k < p → get_or s k 0 ≡ row_value row (gf_power 2 k)) → Locates (p / 2) s v d
    → bytes places ≡ roots_of (polynomial v d) (length row)
    → bytes out ≡ corrected (correction_at (polynomial v d) (bytes places) (entry s)) (bytes row)
    → Bytes out → Near p row c → out ≡ c
near_is_corrected p row out s v places c d hn h2 long es L ep eo bo N =
    let t : ℕ = p / 2 in
    let cs : List Byte = polynomial v d in
    let lc : length cs ≡ d + 1 = polynomial_length v d long in
    let near : apart (bytes row) (bytes c) ≤ t = let a = apart_differing row c in let b = N.near in omega arith in
    let few : length (roots_of cs (length row)) < p = let e = few_roots v d (length row) long hn L.monic in let f = L.few in omega arith in
    bytes_equal out c bo N.byte
    (eo ∙ ap (λ (rs : List Byte). corrected (correction_at cs rs (entry s)) (bytes row)) ep
    ∙ M.complete Byte add mul nil one laws (to_byte 2) 255 places_distinct p t (length row) (bytes row) (bytes c) cs (entry s) one_nil (length_bytes row) (length_bytes c ∙ N.long) hn
    (let f = L.few in omega arith) (λ i hi. ap to_byte (es i hi) ∙ value_at row i) (bytes_code p c N.code) near (solves_hank v d long s t L.solves) few)
