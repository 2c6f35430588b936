-- Data segments and field sync segments as lists of 832 levels.
use Rattle.std.specs.Prelude.{ℕ, ◌-◌, ◌/◌, ◌%◌, ◌^◌, Bool, true, false, cond, not, List, [], ◌∷◌, ◌++◌, map, length, ℤ, pos, negsuc, Ok, Err, Result, ◌==◌, nat_lt, slice_index, slice_index_or}
use Rattle.std.specs.Bool.{beq}
use Rattle.std.specs.List.{range_with_len}
use Rattle.refusal.specs.declared.Refusal.{Refusal}
use Rattle.refusal.specs.declared.Refusal.TheVariants.{WrongLength, SyncTailNotZero}
use Rattle.level.specs.Level.{is_level}
use Rattle.segments.specs.Pn.{odd, pn511, pn63}

-- a data segment: four sync symbols and then its 828 symbols
abbrev pub data_segment : List ℤ → List ℤ
data_segment symbols = pos 5 ∷ negsuc 4 ∷ negsuc 4 ∷ pos 5 ∷ symbols

-- whether two bits differ
abbrev pub differ : Bool → Bool → Bool
differ a b = not (beq a b)

-- the level of a bit: +5 for one and −5 for zero
abbrev pub bit_level : Bool → ℤ
bit_level b = cond b (pos 5) (negsuc 4)

-- bit k of the sync data, the top bit of each byte first
abbrev pub sync_bit : List ℕ → ℕ → Bool
sync_bit sync k = odd (slice_index sync (k / 8) / 2 ^ (7 - k % 8))

-- the four sync symbols of a segment as bits
abbrev pub segment_sync : List Bool
segment_sync = true ∷ false ∷ false ∷ true ∷ []

-- the bit at a position from 0 to 819 of a field sync: the sync, PN511, PN63 three times and the sync data
unfoldable pub field_bit : List ℕ → Bool → ℕ → Bool
field_bit sync second p =
    cond (nat_lt p 4) (slice_index_or segment_sync p false)
    (cond (nat_lt p 515) (pn511 (p - 4))
    (cond (nat_lt p 578) (pn63 (p - 515))
    (cond (nat_lt p 641) (differ second (pn63 (p - 578)))
    (cond (nat_lt p 704) (pn63 (p - 641))
    (sync_bit sync (p - 704))))))

-- the levels of the 820 bits of a field sync
unfoldable pub field_head : List ℕ → Bool → List ℤ
field_head sync second = map (λ p. bit_level (field_bit sync second p)) (range_with_len 0 820)

-- a symbol copied from the segment before: −5 where it is no level
abbrev pub copied_level : ℤ → ℤ
copied_level v = cond (is_level v) v (negsuc 4)

-- a field sync: the levels of its 820 bits and then copies of the twelve symbols before it
abbrev pub field_sync : List ℕ → Bool → List ℤ → List ℤ
field_sync sync second twelve = field_head sync second ++ map copied_level twelve

-- sync data is refused unless it is 15 bytes long and its last four bits are zero
abbrev pub sync_answer : List ℕ → Result (Unit {0}) Refusal
sync_answer sync = cond (length sync == 15) (cond (slice_index sync 14 % 16 == 0) (Ok tt) (Err SyncTailNotZero)) (Err WrongLength)

-- a memory is refused unless it has the length of a segment
abbrev pub segment_answer : ℕ → Result (Unit {0}) Refusal
segment_answer n = cond (n == 832) (Ok tt) (Err WrongLength)

-- a field sync is refused for the length of its memory or for its sync data
abbrev pub field_answer : List ℕ → ℕ → Result (Unit {0}) Refusal
field_answer sync n = cond (n == 832) (sync_answer sync) (Err WrongLength)
