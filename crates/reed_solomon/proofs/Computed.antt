-- The tables of multiples, computed: the bytes of each entry are the multiple.
use Rattle.std.proofs.Common.{◌≡◌, ℕ, zero, suc, ◌+◌, ◌*◌, ◌/◌, ◌%◌, ◌^◌, ◌<◌, List, [], ◌∷◌, map, length, get_or, sym, refl, ap, ◌∙◌, ap₂, zero-add, arith}
use lib.ListN.{length-map}
use Rattle.std.specs.List.{range_with_len}
use Rattle.std.proofs.lemmas.List.FromFn.{get_or-map-range_with_len}
use Rattle.galois.specs.Field.{gf_mul, mul_bits, times_x}
use Rattle.rows.specs.Parity.{scaled}
use Rattle.rows.proofs.Division.{length_generator, length_step}
use Rattle.rows.proofs.Entries.{bytes_scaled}
use Rattle.reed_solomon.specs.declared.multiples.Multiples.{Multiples}
use Rattle.reed_solomon.specs.Held.{digits, held, left_20, left_21, left_after}
use Rattle.reed_solomon.proofs.Digits.{number, digits_number}

-- the first 16 bytes of the multiples of a row of 20
unfoldable pub highs : List ℕ → List ℕ
unfolding number gf_mul mul_bits times_x
highs g = map (λ f. number (scaled f g) / 2 ^ 32) (range_with_len 0 256)

-- the last 4 bytes of the multiples
unfoldable pub lows : List ℕ → List ℕ
unfolding number gf_mul mul_bits times_x
lows g = map (λ f. number (scaled f g) % 2 ^ 32) (range_with_len 0 256)

-- the two entries for f hold the bytes of the multiple by f
pub multiple_right : (g : List ℕ) → length g ≡ 20 → (f : ℕ) → f < 256 → digits 20 (get_or (highs g) f 0 * 2 ^ 32 + get_or (lows g) f 0) ≡ scaled f g
unfolding highs lows
multiple_right g l f h =
    let w : ℕ = number (scaled f g) in
    let e : w / 2 ^ 32 * 2 ^ 32 + w % 2 ^ 32 ≡ w = omega arith in
    ap₂ (λ (x y : ℕ). digits 20 (x * 2 ^ 32 + y)) (get_or-map-range_with_len (λ f. number (scaled f g) / 2 ^ 32) 0 256 f f 0 h (zero-add f))
    (get_or-map-range_with_len (λ f. number (scaled f g) % 2 ^ 32) 0 256 f f 0 h (zero-add f))
    ∙ ap (digits 20) e ∙ ap (λ (n : ℕ). digits n w) (sym (length-map g (gf_mul f) ∙ l)) ∙ digits_number (scaled f g) (bytes_scaled f g h)

-- the table of the multiples of a row of 20
abbrev pub multiples : List ℕ → Multiples
multiples g = record { high = highs g; low = lows g }

-- the entry for f of each of the two tables, whatever is read past them
pub multiple_at : (ahead f : ℕ) (z : Multiples) → ahead < 2 → f < 256
    → held (record { high = get_or (get_or (multiples left_20 ∷ (multiples left_21 ∷ [])) ahead z).high f 0; low = get_or (get_or (multiples left_20 ∷ (multiples left_21 ∷ [])) ahead z).low f 0 }) ≡ scaled f (left_after ahead)
unfolding held
multiple_at zero f z h l = multiple_right left_20 (length_generator 20) f l
multiple_at (suc zero) f z h l = multiple_right left_21 (length_step left_20 left_20 0 refl ∙ length_generator 20) f l
multiple_at (suc (suc k)) f z h l = absurd (omega arith)
