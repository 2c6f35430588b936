-- Laws of 24 bits in one number: gathered from eight symbols, spread to eight symbols, and cut into three bytes.
use Rattle.std.specs.Prelude.{◌≡◌, ℕ, ◌+◌, ◌*◌, ◌/◌, ◌%◌, ◌^◌, ◌<◌, true, List, [], ◌∷◌, length, ℤ, pos, slice_index_or, slice_set}
use Rattle.std.proofs.Common.{sym, ap, ◌∙◌, arith, to_z, of_z}
use Rattle.level.specs.Level.{is_level, all_levels, z_of}
use Rattle.std.specs.Int.{w8}
use Rattle.std.proofs.lemmas.Int.{to_z-of_z}
use Rattle.level.proofs.Levels.{levels_at, level_fits}
use Rattle.packed_line.specs.Packing.{level_from, eight_symbols, three_bytes}
use Rattle.packed_line.proofs.Packs.{level_back, level_of_bits, same_eight, eight_of, eight_list}

-- the number of one of several levels, as it is read
number_read : (xs : List ℤ) (i z : ℕ) → all_levels xs ≡ true → i < length xs → z ≡ z_of (to_z w8 (of_z w8 (slice_index_or xs i (pos 0)))) → level_from z ≡ slice_index_or xs i (pos 0)
number_read xs i z e h q = let l = levels_at xs i e h in ap level_from (q ∙ ap z_of (to_z-of_z w8 (slice_index_or xs i (pos 0)) (level_fits (slice_index_or xs i (pos 0)) l))) ∙ level_back (slice_index_or xs i (pos 0)) l

-- the number that is written for three bits
written : (v : ℤ) (n : ℕ) → v ≡ level_from (n % 8) → to_z w8 (of_z w8 v) ≡ level_from (n % 8)
written v n e = to_z-of_z w8 v (level_fits v (ap is_level e ∙ level_of_bits n)) ∙ e

-- the three bytes of 24 bits
pub bytes_back : (n : ℕ) → n < 2 ^ 24 → three_bytes (n / 65536) (n / 256 % 256) (n % 256) ≡ n
bytes_back n h = omega arith

-- the 24 bits gathered from eight symbols
pub gathered_is : (xs : List ℤ) (a b c d e f g h : ℕ) → length xs ≡ 8 → all_levels xs ≡ true →
    a < 8 → b < 8 → c < 8 → d < 8 → e < 8 → f < 8 → g < 8 → h < 8 →
    a ≡ z_of (to_z w8 (of_z w8 (slice_index_or xs 0 (pos 0)))) → b ≡ z_of (to_z w8 (of_z w8 (slice_index_or xs 1 (pos 0)))) → c ≡ z_of (to_z w8 (of_z w8 (slice_index_or xs 2 (pos 0)))) → d ≡ z_of (to_z w8 (of_z w8 (slice_index_or xs 3 (pos 0)))) →
    e ≡ z_of (to_z w8 (of_z w8 (slice_index_or xs 4 (pos 0)))) → f ≡ z_of (to_z w8 (of_z w8 (slice_index_or xs 5 (pos 0)))) → g ≡ z_of (to_z w8 (of_z w8 (slice_index_or xs 6 (pos 0)))) → h ≡ z_of (to_z w8 (of_z w8 (slice_index_or xs 7 (pos 0)))) →
    eight_symbols (4096 * (a * 512 + b * 64 + c * 8 + d) + (e * 512 + f * 64 + g * 8 + h)) ≡ xs
gathered_is xs a b c d e f g h long levels la lb lc ld le lf lg lh qa qb qc qd qe qf qg qh =
    let pa = number_read xs 0 a levels (omega arith) qa in
    let pb = number_read xs 1 b levels (omega arith) qb in
    let pc = number_read xs 2 c levels (omega arith) qc in
    let pd = number_read xs 3 d levels (omega arith) qd in
    let pe = number_read xs 4 e levels (omega arith) qe in
    let pf = number_read xs 5 f levels (omega arith) qf in
    let pg = number_read xs 6 g levels (omega arith) qg in
    let ph = number_read xs 7 h levels (omega arith) qh in
    eight_of a b c d e f g h la lb lc ld le lf lg lh ∙
    same_eight pa pb pc pd pe pf pg ph ∙
    sym (eight_list xs long)

-- eight elements written one after the other
eight_set : (xs : List ℤ) (a b c d e f g h : ℤ) → length xs ≡ 8 → slice_set (slice_set (slice_set (slice_set (slice_set (slice_set (slice_set (slice_set xs 0 a) 1 b) 2 c) 3 d) 4 e) 5 f) 6 g) 7 h ≡ a ∷ b ∷ c ∷ d ∷ e ∷ f ∷ g ∷ h ∷ []
eight_set xs a b c d e f g h long = ap (λ ys. slice_set (slice_set (slice_set (slice_set (slice_set (slice_set (slice_set (slice_set ys 0 a) 1 b) 2 c) 3 d) 4 e) 5 f) 6 g) 7 h) (eight_list xs long)

-- the eight symbols of 24 bits, written one after the other
pub spread_is : (xs : List ℤ) (n : ℕ) (a b c d e f g h : ℤ) → length xs ≡ 8 →
    a ≡ level_from (n / 2097152 % 8) → b ≡ level_from (n / 262144 % 8) → c ≡ level_from (n / 32768 % 8) → d ≡ level_from (n / 4096 % 8) →
    e ≡ level_from (n / 512 % 8) → f ≡ level_from (n / 64 % 8) → g ≡ level_from (n / 8 % 8) → h ≡ level_from (n % 8) →
    slice_set (slice_set (slice_set (slice_set (slice_set (slice_set (slice_set (slice_set xs 0 (to_z w8 (of_z w8 a))) 1 (to_z w8 (of_z w8 b))) 2 (to_z w8 (of_z w8 c))) 3 (to_z w8 (of_z w8 d))) 4 (to_z w8 (of_z w8 e))) 5 (to_z w8 (of_z w8 f))) 6 (to_z w8 (of_z w8 g))) 7 (to_z w8 (of_z w8 h)) ≡ eight_symbols n
spread_is xs n a b c d e f g h long qa qb qc qd qe qf qg qh =
    eight_set xs (to_z w8 (of_z w8 a)) (to_z w8 (of_z w8 b)) (to_z w8 (of_z w8 c)) (to_z w8 (of_z w8 d)) (to_z w8 (of_z w8 e)) (to_z w8 (of_z w8 f)) (to_z w8 (of_z w8 g)) (to_z w8 (of_z w8 h)) long ∙
    same_eight (written a (n / 2097152) qa) (written b (n / 262144) qb) (written c (n / 32768) qc) (written d (n / 4096) qd) (written e (n / 512) qe) (written f (n / 64) qf) (written g (n / 8) qg) (written h n qh)
