-- Laws of eight symbols in three bytes.
use Rattle.std.proofs.Common.{◌≡◌, ℕ, zero, suc, ◌+◌, ◌-◌, ◌*◌, ◌/◌, ◌%◌, ◌^◌, ◌<◌, true, List, [], ◌∷◌, ◌++◌, length, get_or, ℤ, pos, negsuc, sym, refl, ap, ◌∙◌, subst, arith}
use Rattle.level.specs.Level.{is_level, all_levels, z_of}
use Rattle.level.proofs.Levels.{levels_append, levels_at}
use Rattle.packed_line.specs.Packing.{level_from, eight_symbols, three_bytes, unpacked}

-- the level of a level's number
pub level_back : (v : ℤ) → is_level v ≡ true → level_from (z_of v) ≡ v
level_back (pos n) h = grind arith
level_back (negsuc n) h = grind arith

-- the number of a level is below 8
pub number_small : (v : ℤ) → is_level v ≡ true → z_of v < 8
number_small (pos n) h = grind arith
number_small (negsuc n) h = grind arith

-- every number below 8 is the number of a level
pub from_is_level : (z : ℕ) → z < 8 → is_level (level_from z) ≡ true
from_is_level zero h = refl
from_is_level (suc zero) h = refl
from_is_level (suc (suc zero)) h = refl
from_is_level (suc (suc (suc zero))) h = refl
from_is_level (suc (suc (suc (suc zero)))) h = refl
from_is_level (suc (suc (suc (suc (suc zero))))) h = refl
from_is_level (suc (suc (suc (suc (suc (suc zero)))))) h = refl
from_is_level (suc (suc (suc (suc (suc (suc (suc zero))))))) h = refl
from_is_level (suc (suc (suc (suc (suc (suc (suc (suc z)))))))) h = absurd (omega arith)

-- three bits make a level
pub level_of_bits : (n : ℕ) → is_level (level_from (n % 8)) ≡ true
level_of_bits n = from_is_level (n % 8) (omega arith)

-- eight symbols of 24 bits are levels
pub eight_levels : (n : ℕ) → all_levels (eight_symbols n) ≡ true
eight_levels n =
    let a = level_of_bits (n / 2097152) in
    let b = level_of_bits (n / 262144) in
    let c = level_of_bits (n / 32768) in
    let d = level_of_bits (n / 4096) in
    let e = level_of_bits (n / 512) in
    let f = level_of_bits (n / 64) in
    let g = level_of_bits (n / 8) in
    let h = level_of_bits n in
    simp (a, b, c, d, e, f, g, h)

-- equal elements make equal lists
pub same_eight : {a b c d e f g h a' b' c' d' e' f' g' h' : ℤ} → a ≡ a' → b ≡ b' → c ≡ c' → d ≡ d' → e ≡ e' → f ≡ f' → g ≡ g' → h ≡ h' → a ∷ b ∷ c ∷ d ∷ e ∷ f ∷ g ∷ h ∷ [] ≡ a' ∷ b' ∷ c' ∷ d' ∷ e' ∷ f' ∷ g' ∷ h' ∷ []
same_eight pa pb pc pd pe pf pg ph = cc

-- the symbols of eight numbers, the first in the highest bits
pub eight_of : (a b c d e f g h : ℕ) → a < 8 → b < 8 → c < 8 → d < 8 → e < 8 → f < 8 → g < 8 → h < 8 →
    eight_symbols (4096 * (a * 512 + b * 64 + c * 8 + d) + (e * 512 + f * 64 + g * 8 + h)) ≡
    level_from a ∷ level_from b ∷ level_from c ∷ level_from d ∷ level_from e ∷ level_from f ∷ level_from g ∷ level_from h ∷ []
eight_of a b c d e f g h la lb lc ld le lf lg lh =
    let n = 4096 * (a * 512 + b * 64 + c * 8 + d) + (e * 512 + f * 64 + g * 8 + h) in
    let pa : n / 2097152 % 8 ≡ a = omega arith in
    let pb : n / 262144 % 8 ≡ b = omega arith in
    let pc : n / 32768 % 8 ≡ c = omega arith in
    let pd : n / 4096 % 8 ≡ d = omega arith in
    let pe : n / 512 % 8 ≡ e = omega arith in
    let pf : n / 64 % 8 ≡ f = omega arith in
    let pg : n / 8 % 8 ≡ g = omega arith in
    let ph : n % 8 ≡ h = omega arith in
    same_eight (ap level_from pa) (ap level_from pb) (ap level_from pc) (ap level_from pd) (ap level_from pe) (ap level_from pf) (ap level_from pg) (ap level_from ph)

-- a list of eight symbols
pub eight_list : (xs : List ℤ) → length xs ≡ 8 →
    xs ≡ get_or xs 0 (pos 0) ∷ get_or xs 1 (pos 0) ∷ get_or xs 2 (pos 0) ∷ get_or xs 3 (pos 0) ∷ get_or xs 4 (pos 0) ∷ get_or xs 5 (pos 0) ∷ get_or xs 6 (pos 0) ∷ get_or xs 7 (pos 0) ∷ []
eight_list [] h = absurd (omega arith)
eight_list (a ∷ []) h = absurd (omega arith)
eight_list (a ∷ b ∷ []) h = absurd (omega arith)
eight_list (a ∷ b ∷ c ∷ []) h = absurd (omega arith)
eight_list (a ∷ b ∷ c ∷ d ∷ []) h = absurd (omega arith)
eight_list (a ∷ b ∷ c ∷ d ∷ e ∷ []) h = absurd (omega arith)
eight_list (a ∷ b ∷ c ∷ d ∷ e ∷ f ∷ []) h = absurd (omega arith)
eight_list (a ∷ b ∷ c ∷ d ∷ e ∷ f ∷ g ∷ []) h = absurd (omega arith)
eight_list (a ∷ b ∷ c ∷ d ∷ e ∷ f ∷ g ∷ i ∷ []) h = refl
eight_list (a ∷ b ∷ c ∷ d ∷ e ∷ f ∷ g ∷ i ∷ x ∷ xs) h = absurd (omega arith)

-- the numbers of eight levels in three bytes
pub pack_is : (xs : List ℤ) (ns : List ℕ) → length xs ≡ 8 → all_levels xs ≡ true → ((k : ℕ) → k < 8 → get_or ns k 0 ≡ z_of (get_or xs k (pos 0))) →
    unpacked ((get_or ns 0 0 * 32 + get_or ns 1 0 * 4 + get_or ns 2 0 / 2) ∷ (get_or ns 2 0 % 2 * 128 + get_or ns 3 0 * 16 + get_or ns 4 0 * 2 + get_or ns 5 0 / 4) ∷ (get_or ns 5 0 % 4 * 64 + get_or ns 6 0 * 8 + get_or ns 7 0) ∷ []) ≡ xs
pack_is xs ns long levels each =
    let n = λ (k : ℕ). get_or ns k 0 in
    let small : (k : ℕ) → k < 8 → n k < 8 = λ k h. subst (λ z. z < 8) (sym (each k h)) (number_small (get_or xs k (pos 0)) (levels_at xs k levels (omega (arith, long)))) in
    let back : (k : ℕ) → k < 8 → level_from (n k) ≡ get_or xs k (pos 0) = λ k h. ap level_from (each k h) ∙ level_back (get_or xs k (pos 0)) (levels_at xs k levels (omega (arith, long))) in
    let bits : three_bytes (n 0 * 32 + n 1 * 4 + n 2 / 2) (n 2 % 2 * 128 + n 3 * 16 + n 4 * 2 + n 5 / 4) (n 5 % 4 * 64 + n 6 * 8 + n 7) ≡ 4096 * (n 0 * 512 + n 1 * 64 + n 2 * 8 + n 3) + (n 4 * 512 + n 5 * 64 + n 6 * 8 + n 7) = omega arith in
    ap eight_symbols bits ∙
    eight_of (n 0) (n 1) (n 2) (n 3) (n 4) (n 5) (n 6) (n 7) (small 0 (omega arith)) (small 1 (omega arith)) (small 2 (omega arith)) (small 3 (omega arith)) (small 4 (omega arith)) (small 5 (omega arith)) (small 6 (omega arith)) (small 7 (omega arith)) ∙
    same_eight (back 0 (omega arith)) (back 1 (omega arith)) (back 2 (omega arith)) (back 3 (omega arith)) (back 4 (omega arith)) (back 5 (omega arith)) (back 6 (omega arith)) (back 7 (omega arith)) ∙
    sym (eight_list xs long)

-- a list of three bytes
three_list : (xs : List ℕ) → length xs ≡ 3 → xs ≡ get_or xs 0 0 ∷ get_or xs 1 0 ∷ get_or xs 2 0 ∷ []
three_list [] h = absurd (omega arith)
three_list (a ∷ []) h = absurd (omega arith)
three_list (a ∷ b ∷ []) h = absurd (omega arith)
three_list (a ∷ b ∷ c ∷ []) h = refl
three_list (a ∷ b ∷ c ∷ x ∷ xs) h = absurd (omega arith)

-- the symbols of three bytes, one by one
pub unpack_is : (xs : List ℤ) (bytes : List ℕ) → length xs ≡ 8 → length bytes ≡ 3 →
    ((k : ℕ) (d : ℤ) → k < 8 → get_or xs k d ≡ level_from (three_bytes (get_or bytes 0 0) (get_or bytes 1 0) (get_or bytes 2 0) / 2 ^ (21 - 3 * k) % 8)) → xs ≡ unpacked bytes
unpack_is xs bytes long three each =
    let n = three_bytes (get_or bytes 0 0) (get_or bytes 1 0) (get_or bytes 2 0) in
    let at : (k : ℕ) → k < 8 → get_or xs k (pos 0) ≡ level_from (n / 2 ^ (21 - 3 * k) % 8) = λ k h. each k (pos 0) h in
    let last : n / 1 ≡ n = omega arith in
    let symbols : xs ≡ eight_symbols n = eight_list xs long ∙ same_eight (at 0 (omega arith)) (at 1 (omega arith)) (at 2 (omega arith)) (at 3 (omega arith)) (at 4 (omega arith)) (at 5 (omega arith)) (at 6 (omega arith)) (at 7 (omega arith) ∙ ap (λ m. level_from (m % 8)) last) in
    symbols ∙ ap unpacked (sym (three_list bytes three))

-- eight symbols for each three bytes
pub unpacked_length : (n : ℕ) (bytes : List ℕ) → length bytes ≡ 3 * n → length (unpacked bytes) ≡ 8 * n
unpacked_length n [] h = omega arith
unpacked_length n (a ∷ []) h = absurd (omega arith)
unpacked_length n (a ∷ b ∷ []) h = absurd (omega arith)
unpacked_length zero (a ∷ b ∷ c ∷ bytes) h = absurd (omega arith)
unpacked_length (suc n) (a ∷ b ∷ c ∷ bytes) h = let e = unpacked_length n bytes (omega arith) in omega arith

-- whatever the bytes, the symbols are levels
pub unpacked_levels : (bytes : List ℕ) → all_levels (unpacked bytes) ≡ true
unpacked_levels [] = refl
unpacked_levels (a ∷ []) = refl
unpacked_levels (a ∷ b ∷ []) = refl
unpacked_levels (a ∷ b ∷ c ∷ bytes) = levels_append (eight_symbols (three_bytes a b c)) (unpacked bytes) (eight_levels (three_bytes a b c)) (unpacked_levels bytes)

-- three bytes more
pub unpacked_more : (n : ℕ) (bytes : List ℕ) (a b c : ℕ) → length bytes ≡ 3 * n → unpacked (bytes ++ a ∷ b ∷ c ∷ []) ≡ unpacked bytes ++ eight_symbols (three_bytes a b c)
unpacked_more n [] a b c h = refl
unpacked_more n (x ∷ []) a b c h = absurd (omega arith)
unpacked_more n (x ∷ y ∷ []) a b c h = absurd (omega arith)
unpacked_more zero (x ∷ y ∷ z ∷ bytes) a b c h = absurd (omega arith)
unpacked_more (suc n) (x ∷ y ∷ z ∷ bytes) a b c h = ap (λ ws. eight_symbols (three_bytes x y z) ++ ws) (unpacked_more n bytes a b c (omega arith))
