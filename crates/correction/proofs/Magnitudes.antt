-- The magnitude at a root: the other roots are taken out of the syndromes one after another.
use Rattle.std.proofs.Common.{◌≡◌, ℕ, suc, ◌+◌, ◌-◌, ◌<◌, ◌≤◌, ◌≢◌, List, [], ◌∷◌, length, get_or, drop, sym, refl, ap, ◌∙◌, ap₂, add-one, arith, length-drop}
use lib.Bits.{bit_xor}
use Rattle.std.proofs.lemmas.List.{drop_more, drop_all}
use Rattle.galois.specs.Field.{gf_mul}
use Rattle.moments.proofs.Moments as M
use Rattle.rows.proofs.Bytes.{Byte, to_byte, add, mul, nil, one, laws, to_byte_xor, to_byte_mul, to_byte_eq}
use Rattle.rows.proofs.Ring.{mul_one}
use Rattle.rows.proofs.Values.{bytes, length_bytes}
use Rattle.correction.specs.Polynomials.{entry, others, product_at, taken_out, magnitude_at}
use Rattle.correction.proofs.Roots.{one_nil}

-- the roots from number m on, without x
abbrev pub left : List ℕ → ℕ → ℕ → List Byte
left at x m = others (to_byte x) (bytes (drop m at))

-- the first m roots are taken out of s, which gives w, and d is the product over them
pub record TakenOut (at s : List ℕ) (x m : ℕ) (w : List ℕ) (d : ℕ) : Type 0 where
  pub small : d < 256
  pub sequence : taken_out (left at x m) (entry w) 0 ≡ taken_out (left at x 0) (entry s) 0
  pub product : mul (to_byte d) (product_at (left at x m) (to_byte x)) ≡ product_at (left at x 0) (to_byte x)

module _ (at s : List ℕ) (x : ℕ) where
  pub taken_start : TakenOut at s x 0 s 1
  taken_start = record { small = omega arith; sequence = refl; product = laws.one_mul (product_at (left at x 0) (to_byte x)) }

  first : (m : ℕ) → m < length at → bytes (drop m at) ≡ to_byte (get_or at m 0) ∷ bytes (drop (m + 1) at)
  first m h = ap bytes (drop_more at m 0 h)

  -- x itself is passed over
  pub taken_over : (m : ℕ) (w : List ℕ) (d : ℕ) → m < length at → get_or at m 0 ≡ x → TakenOut at s x m w d → TakenOut at s x (m + 1) w d
  taken_over m w d h e P =
      let q : left at x m ≡ left at x (m + 1) =
      ap (others (to_byte x)) (first m h) ∙ M.but_hit Byte add mul nil one laws (to_byte x) (to_byte (get_or at m 0)) (bytes (drop (m + 1) at)) (ap to_byte e) in
      record {
        small = P.small;
        sequence = ap (λ (r : List Byte). taken_out r (entry w) 0) (sym q) ∙ P.sequence;
        product = ap (λ (r : List Byte). mul (to_byte d) (product_at r (to_byte x))) (sym q) ∙ P.product;
      }

  -- another root is taken out
  pub taken_more : (m : ℕ) (w w' : List ℕ) (d d' : ℕ) → m < length at → get_or at m 0 < 256 → x < 256 → get_or at m 0 ≢ x
      → ((k : ℕ) → k < length at - m → get_or w' k 0 ≡ bit_xor (get_or w (k + 1) 0) (gf_mul (get_or at m 0) (get_or w k 0))) → d' < 256
      → d' ≡ gf_mul d (bit_xor x (get_or at m 0)) → TakenOut at s x m w d → TakenOut at s x (m + 1) w' d'
  unfolding M.peel M.out
  taken_more m w w' d d' h hr hx ne ew hd ed P =
      let r : ℕ = get_or at m 0 in
      let rest : List Byte = bytes (drop (m + 1) at) in
      let q : left at x m ≡ to_byte r ∷ left at x (m + 1) =
      ap (others (to_byte x)) (first m h) ∙ M.but_miss Byte add mul nil one laws (to_byte x) (to_byte r) rest (λ z. ne (to_byte_eq r x hr hx z)) in
      let long : length rest ≡ length at - (m + 1) = length_bytes (drop (m + 1) at) ∙ length-drop (m + 1) at in
      let fewer : length (left at x (m + 1)) ≤ length at - (m + 1) = let u = M.but_length Byte add mul nil one laws (to_byte x) rest in omega arith in
      record {
        small = hd;
        sequence =
            M.peel_cong Byte add mul nil one laws (left at x (m + 1)) (entry w') (λ i. add (entry w (suc i)) (mul (to_byte r) (entry w i))) 0
            (λ k b. ap to_byte (ew k (omega arith)) ∙ to_byte_xor (get_or w (k + 1) 0) (gf_mul r (get_or w k 0)) ∙ ap₂ add (ap (entry w) (add-one k)) (to_byte_mul r (get_or w k 0)))
            ∙ ap (λ (z : List Byte). taken_out z (entry w) 0) (sym q) ∙ P.sequence;
        product =
            ap (λ (y : Byte). mul y (product_at (left at x (m + 1)) (to_byte x))) (ap to_byte ed ∙ to_byte_mul d (bit_xor x r) ∙ ap (mul (to_byte d)) (to_byte_xor x r))
            ∙ laws.mul_assoc (to_byte d) (add (to_byte x) (to_byte r)) (product_at (left at x (m + 1)) (to_byte x))
            ∙ ap (λ (z : List Byte). mul (to_byte d) (product_at z (to_byte x))) (sym q) ∙ P.product;
      }

  none : (m : ℕ) → length at ≤ m → left at x m ≡ []
  unfolding M.but
  none m h = ap (λ (r : List ℕ). others (to_byte x) (bytes r)) (drop_all m at h)

  whole_product : (m d : ℕ) (w : List ℕ) → length at ≤ m → TakenOut at s x m w d → product_at (left at x 0) (to_byte x) ≡ to_byte d
  unfolding M.out
  whole_product m d w h P = sym P.product ∙ ap (λ (z : List Byte). mul (to_byte d) (product_at z (to_byte x))) (none m h) ∙ mul_one (to_byte d)

  -- the product over all is not 0
  pub taken_ne : (m d : ℕ) (w : List ℕ) → length at ≤ m → TakenOut at s x m w d → d ≢ 0
  taken_ne m d w h P z = M.but_ne Byte add mul nil one laws (to_byte x) (bytes at) one_nil (whole_product m d w h P ∙ ap to_byte z)

  -- where all are taken out, what is left over the product is the magnitude
  pub taken_all : (m d b : ℕ) (w : List ℕ) → length at ≤ m → TakenOut at s x m w d → gf_mul d b ≡ 1 → to_byte (gf_mul (get_or w 0 0) b) ≡ magnitude_at (bytes at) (entry s) (to_byte x)
  unfolding M.peel
  taken_all m d b w h P e =
      to_byte_mul (get_or w 0 0) b
      ∙ M.value_is Byte add mul nil one laws (bytes at) (entry s) (to_byte x) (entry w 0) (to_byte d) (to_byte b) one_nil
      (sym P.sequence ∙ ap (λ (z : List Byte). taken_out z (entry w) 0) (none m h)) (whole_product m d w h P) (sym (to_byte_mul d b) ∙ ap to_byte e)
