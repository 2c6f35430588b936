-- Eight bytes and eight steps at once: the tables' rules, and the lists that the blocks make.
use Rattle.std.proofs.Common.{◌≡◌, ℕ, zero, suc, ◌+◌, ◌-◌, ◌*◌, ◌/◌, ◌%◌, ◌<◌, List, [], ◌∷◌, ◌++◌, map, length, get_or, take, sym, refl, ap, ◌∙◌, ap₂, le_of_suc-le-suc, not-suc-le-zero, arith, length-append}
use native.Mathlib.Nat.{div-div-eq-div-mul}
use borrow.Rule.Slice.PartMut.{put_mid}
use lib.Bits.{bit_xor}
use Rattle.std.specs.List.{range_with_len}
use Rattle.std.proofs.lemmas.List.FromFn.{get_or-map-range_with_len}
use Rattle.std.proofs.lemmas.List.{length-take, length-drop}
use Rattle.std.proofs.lemmas.Slice.{take-put_mid}
use Rattle.tables.proofs.All.{agree}
use Rattle.tables.proofs.Entries.{iterates, iterate}
use Rattle.randomizer.specs.Stages.{start, next, after, byte_of, keys_from}
use Rattle.randomizer.proofs.Linear.{after_xor, byte_lt, packed, packed_xor, halves}

-- steps after steps
pub after_after : (j k s : ℕ) → after k (after j s) ≡ after (j + k) s
unfolding after
after_after zero k s = let e : 0 + k ≡ k = omega arith in rw e
after_after (suc j) k s = let e : suc j + k ≡ suc (j + k) = omega arith in rw e (after_after j k (next s))

-- a table of f at every number below 256
abbrev pub table : (ℕ → ℕ) → List ℕ
table f = map f (range_with_len 0 256)

-- what such a table has at i
entry : (f : ℕ → ℕ) (i : ℕ) → i < 256 → get_or (table f) i 0 ≡ f i
entry f i h = get_or-map-range_with_len f 0 256 i i 0 h (omega arith)

-- no step
after_none : (s : ℕ) → after 0 s ≡ s
unfolding after
after_none s = refl

-- the states with which n packets begin, 187 steps apart
pub starts : (n k : ℕ) → k < n → get_or (iterates (after 187) start n) k 0 ≡ after (187 * k) start
starts n k h =
    let each : (k : ℕ) → after (187 * suc k) start ≡ after 187 (after (187 * k) start) =
    λ k. let e : 187 * suc k ≡ 187 * k + 187 = omega arith in rw e (sym (after_after (187 * k) 187 start)) in
    let e : 0 + k ≡ k = omega arith in
    ap (λ (s : ℕ). get_or (iterates (after 187) s n) k 0) (sym (after_none start)) ∙ (iterate (λ k. after (187 * k) start) (after 187) each n 0 k h ∙ ap (λ (k : ℕ). after (187 * k) start) e)

-- what the tables of the low and of the high half give together
pub eight_packed : (s : ℕ) → s < 65536 → bit_xor (get_or (table (λ h. packed 8 (h * 256))) (s / 256) 0) (get_or (table (packed 8)) (s % 256) 0) ≡ packed 8 s
eight_packed s h =
    ap₂ bit_xor (entry (λ h. packed 8 (h * 256)) (s / 256) (omega arith)) (entry (packed 8) (s % 256) (omega arith)) ∙ halves (packed 8) (packed_xor 8) s

-- stages 1 to 8 alone move up by eight
moved_up : (s : ℕ) → s < 256 → s * 256 ≡ after 8 s
unfolding after next
moved_up = agree (λ s. s * 256) (after 8) 256 tt

-- what the table of the high half and the low half moved up give together
pub eight_on : (s : ℕ) → s < 65536 → bit_xor (get_or (table (λ h. after 8 (h * 256))) (s / 256) 0) (s % 256 * 256) ≡ after 8 s
eight_on s h =
    ap₂ bit_xor (entry (λ h. after 8 (h * 256)) (s / 256) (omega arith)) (moved_up (s % 256) (omega arith)) ∙ halves (after 8) (after_xor 8) s

-- the n lowest bytes of a number, the lowest first
unfoldable lowest : ℕ → ℕ → List ℕ
lowest zero x = []
lowest (suc n) x = x % 256 ∷ lowest n (x / 256)

-- the bytes that were packed come out again
lowest_packed : (n s : ℕ) → lowest n (packed n s) ≡ keys_from n s
unfolding lowest packed keys_from
lowest_packed zero s = refl
lowest_packed (suc n) s =
    let b = byte_lt s in
    let low : (packed n (next s) * 256 + byte_of s) % 256 ≡ byte_of s = omega arith in
    let rest : (packed n (next s) * 256 + byte_of s) / 256 ≡ packed n (next s) = omega arith in
    ap₂ (λ (x : ℕ) (xs : List ℕ). x ∷ xs) low (ap (lowest n) rest ∙ lowest_packed n (next s))

-- the eight bytes of a number, the lowest first
abbrev low_bytes : ℕ → List ℕ
low_bytes x =
    (x % 256) ∷ (x / 256 % 256) ∷ (x / 65536 % 256) ∷ (x / 16777216 % 256) ∷ (x / 4294967296 % 256) ∷ (x / 1099511627776 % 256) ∷ (x / 281474976710656 % 256) ∷ (x / 72057594037927936 % 256) ∷ []

-- the same eight bytes, each by one division
lowest_eight : (x : ℕ) → lowest 8 x ≡ low_bytes x
unfolding lowest
lowest_eight x = simp div-div-eq-div-mul

-- the bytes of the eight packed into one number
pub eight_bytes : (x s : ℕ) (bytes : List ℕ) → bytes ≡ low_bytes x → x ≡ packed 8 s → bytes ≡ keys_from 8 s
eight_bytes x s bytes e p = e ∙ sym (lowest_eight x) ∙ ap (lowest 8) p ∙ lowest_packed 8 s

-- bytes from a state on, in two parts
pub keys_append : (m n s : ℕ) → keys_from m s ++ keys_from n (after m s) ≡ keys_from (m + n) s
unfolding keys_from after
keys_append zero n s = let e : 0 + n ≡ n = omega arith in rw e
keys_append (suc m) n s = let e : suc m + n ≡ suc (m + n) = omega arith in rw e (ap (λ (xs : List ℕ). byte_of s ∷ xs) (keys_append m n (next s)))

-- how many bytes they are
pub length_keys : (n s : ℕ) → length (keys_from n s) ≡ n
unfolding keys_from
length_keys zero s = refl
length_keys (suc n) s = ap suc (length_keys n (next s))

-- byte j of them
pub get_or_keys : (n s j : ℕ) → j < n → get_or (keys_from n s) j 0 ≡ byte_of (after j s)
unfolding keys_from after
get_or_keys zero s j h = absurd (not-suc-le-zero h)
get_or_keys (suc n) s zero h = refl
get_or_keys (suc n) s (suc j) h = get_or_keys n (next s) j (le_of_suc-le-suc h)

-- one block more of a memory that is filled from its start
pub block_more : (b s first : ℕ) (keys ys : List ℕ) → b < 24 → length keys ≡ 192 → s ≡ after (8 * b) first → take (8 * b) keys ≡ keys_from (8 * b) first → ys ≡ keys_from 8 s
    → take (8 * (b + 1)) (put_mid (8 * b) (8 * b + 8 - 8 * b) keys ys) ≡ keys_from (8 * (b + 1)) first
block_more b s first keys ys h l a k e =
    let n : 8 * (b + 1) ≡ 8 * b + 8 = omega arith in
    let ly : length ys ≡ 8 = ap length e ∙ length_keys 8 s in
    take-put_mid (8 * b) (8 * b + 8 - 8 * b) keys ys (8 * (b + 1)) (omega arith) (omega arith)
    ∙ ap₂ (λ (xs zs : List ℕ). xs ++ zs) k (e ∙ ap (keys_from 8) a)
    ∙ keys_append (8 * b) 8 first ∙ ap (λ (m : ℕ). keys_from m first) (sym n)

-- and the memory keeps its length
pub length_block : (b : ℕ) (keys ys : List ℕ) → b < 24 → length keys ≡ 192 → length ys ≡ 8 → length (put_mid (8 * b) (8 * b + 8 - 8 * b) keys ys) ≡ 192
length_block b keys ys h l e = simp (length-append, length-take, length-drop) (omega arith)

-- the state one block on
pub after_more : (b s first : ℕ) → s ≡ after (8 * b) first → after 8 s ≡ after (8 * (b + 1)) first
after_more b s first e = let n : 8 * (b + 1) ≡ 8 * b + 8 = omega arith in ap (after 8) e ∙ after_after (8 * b) 8 first ∙ ap (λ (m : ℕ). after m first) (sym n)
