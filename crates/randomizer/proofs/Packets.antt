-- What combining gives, byte by byte, and that doing it twice gives the bytes back.
use Rattle.std.proofs.Common.{◌≡◌, ℕ, ◌+◌, ◌*◌, ◌%◌, ◌<◌, List, length, get_or, sym, ap, ◌∙◌, arith}
use lib.Bits.{bit_xor, xor_assoc, xor_self, xor_zero_r}
use Rattle.std.proofs.lemmas.List.FromFn.{length-map-range_with_len, get_or-map-range_with_len}
use Rattle.std.proofs.lemmas.List.{ext_get_or}
use Rattle.randomizer.specs.Stages.{start, after, byte_of, key, keys_from}
use Rattle.randomizer.specs.Packets.{state_at, key_at, randomized}
use Rattle.randomizer.specs.Laws.{FieldLaw, RoundTrip}
use Rattle.randomizer.proofs.Blocks.{after_after, get_or_keys}

-- their number is kept
pub length_randomized : (place : ℕ) (bytes : List ℕ) → length (randomized place bytes) ≡ length bytes
unfolding randomized
length_randomized place bytes = length-map-range_with_len (λ j. bit_xor (get_or bytes j 0) (key_at place j)) 0 (length bytes)

-- byte j is combined with the byte of its place
pub get_or_randomized : (place : ℕ) (bytes : List ℕ) (j : ℕ) → j < length bytes → get_or (randomized place bytes) j 0 ≡ bit_xor (get_or bytes j 0) (key_at place j)
unfolding randomized
get_or_randomized place bytes j h = get_or-map-range_with_len (λ j. bit_xor (get_or bytes j 0) (key_at place j)) 0 (length bytes) j j 0 h (omega arith)

-- twice at one place gives the bytes back
pub round_trip : RoundTrip
round_trip place bytes =
    let once = length_randomized place bytes in
    let twice = length_randomized place (randomized place bytes) in
    ext_get_or 0 (randomized place (randomized place bytes)) bytes (twice ∙ once)
    (λ j h. let l : j < length bytes = omega arith in
    get_or_randomized place (randomized place bytes) j (omega arith)
    ∙ ap (λ (x : ℕ). bit_xor x (key_at place j)) (get_or_randomized place bytes j l)
    ∙ xor_assoc (get_or bytes j 0) (key_at place j) (key_at place j) ∙ ap (bit_xor (get_or bytes j 0)) (xor_self (key_at place j)) ∙ xor_zero_r (get_or bytes j 0))

-- the sequence starts anew with each field
pub field_law : FieldLaw
unfolding key_at
field_law place j = let e : (place + 312) % 312 ≡ place % 312 = omega arith in rw e

-- byte j of those written from the state of a place
pub key_written : (place j : ℕ) → j < 192 → get_or (keys_from 192 (state_at place)) j 0 ≡ key_at place j
unfolding state_at key_at key
key_written place j h = get_or_keys 192 (after (187 * (place % 312)) start) j h ∙ ap byte_of (after_after (187 * (place % 312)) j start)

-- a memory of which each byte is combined
pub all_combined : (place : ℕ) (bytes keys out : List ℕ) → length bytes ≡ 187 → length out ≡ 187 → keys ≡ keys_from 192 (state_at place)
    → ((j : ℕ) → j < 187 → get_or out j 0 ≡ bit_xor (get_or bytes j 0) (get_or keys j 0)) → out ≡ randomized place bytes
all_combined place bytes keys out lb lo k each =
    ext_get_or 0 out (randomized place bytes) (lo ∙ sym lb ∙ sym (length_randomized place bytes))
    (λ j h. each j (omega arith) ∙ ap (bit_xor (get_or bytes j 0)) (ap (λ (xs : List ℕ). get_or xs j 0) k ∙ key_written place j (omega arith)) ∙ sym (get_or_randomized place bytes j (omega arith)))
