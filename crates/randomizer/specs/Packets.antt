-- A packet's 187 bytes combined with the randomizer's, by the packet's place in its field of 312.
use Rattle.std.specs.Prelude.{ℕ, ◌+◌, ◌*◌, ◌%◌, cond, List, map, length, Ok, Err, Result, ◌==◌, bit_xor, slice_index}
use Rattle.std.specs.List.{range_with_len}
use Rattle.refusal.specs.declared.Refusal.{Refusal}
use Rattle.refusal.specs.declared.Refusal.TheVariants.{WrongLength}
use Rattle.randomizer.specs.Stages.{start, after, key}

-- the state with which the packet at a place begins
unfoldable pub state_at : ℕ → ℕ
state_at place = after (187 * (place % 312)) start

-- the randomizer's byte for byte j of the packet at a place
unfoldable pub key_at : ℕ → ℕ → ℕ
key_at place j = key (187 * (place % 312) + j)

-- bytes of the packet at a place, each combined with its byte of the randomizer
unfoldable pub randomized : ℕ → List ℕ → List ℕ
randomized place bytes = map (λ j. bit_xor (slice_index bytes j) (key_at place j)) (range_with_len 0 (length bytes))

-- what `combine` answers to so many bytes and a memory of so many
abbrev pub combine_answer : ℕ → ℕ → Result (Unit {0}) Refusal
combine_answer bytes out = cond (bytes == 187) (cond (out == 187) (Ok tt) (Err WrongLength)) (Err WrongLength)
