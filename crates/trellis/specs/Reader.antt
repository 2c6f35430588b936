-- What the reader of data symbols answers, and what it leaves.
use Rattle.std.specs.Prelude.{◌≡◌, ℕ, zero, suc, ◌+◌, ◌-◌, ◌*◌, ◌/◌, ◌%◌, ◌<◌, ◌≤◌, min, Bool, false, cond, ◌||◌, ◌≢◌, List, length, ℤ, pos, Ok, Err, Result, ◌==◌, slice_index_or}
use Rattle.level.specs.declared.Bits.{Bits}
use Rattle.level.specs.Level.{bit, all_levels}
use Rattle.refusal.specs.declared.Refusal.{Refusal}
use Rattle.refusal.specs.declared.Refusal.TheVariants.{WrongLength, NotALevel}
use Rattle.trellis.specs.declared.reading.Marked.{Marked}
use Rattle.trellis.specs.declared.reading.Memory.{Memory}
use Rattle.trellis.specs.declared.reading.Pair.{Pair}
use Rattle.trellis.specs.Places.{byte_encoder}
use Rattle.trellis.specs.Sent.{xor}
use Rattle.trellis.specs.Received.{bits_at, pairs_of, doubts_of, read_byte, read_mark}
use Rattle.trellis.specs.Writer.{lane_encoder, lane_byte}

-- refused where a memory has another length than 828, and then where a symbol is none of the eight levels
abbrev pub read_answer : List ℤ → ℕ → Result (Unit {0}) Refusal
read_answer symbols quad_length =
    cond (length symbols == 828) (cond (quad_length == 828) (cond (all_levels symbols) (Ok tt) (Err NotALevel)) (Err WrongLength)) (Err WrongLength)

-- the memory of an encoder of which nothing is read
abbrev pub new_memory : Memory
new_memory = record { z2 = false; z0 = false; expected = false }

-- the memory after one more symbol
abbrev pub noted : Memory → Bits → Memory
noted m t = record { z2 = t.z2; z0 = t.z0; expected = xor m.z0 t.z1 }

-- the pair that a symbol gives, and whether it is doubted where doubts are asked for
abbrev pub pair_of : Memory → Bits → Bool → Pair
pair_of m t asked = record { number = 2 * bit (xor t.z2 m.z2) + bit t.z1; doubted = cond asked (xor t.z0 m.expected) false }

-- the memory of encoder e before group q
unfoldable pub memory_before : (ℕ → ℤ) → ℕ → ℕ → Memory
memory_before levels e zero = new_memory
memory_before levels e (suc q) = noted (memory_before levels e q) (bits_at levels e q)

-- a byte with nothing in it
abbrev pub blank : Marked
blank = record { byte = 0; marked = false }

-- a byte with one more pair: the first of four begins it
abbrev pub joined : Marked → ℕ → Pair → Marked
joined m group pair =
    cond (group % 4 == 0)
    (record { byte = pair.number; marked = pair.doubted })
    (record { byte = m.byte % 64 * 4 + pair.number; marked = m.marked || pair.doubted })

-- interleaved byte u as far as its first c pairs are read
abbrev pub part_of : (ℕ → ℤ) → ℕ → ℕ → Marked
part_of levels u c = record { byte = pairs_of levels u c; marked = doubts_of levels u c }

-- interleaved byte u as read
abbrev pub marked_byte : (ℕ → ℤ) → ℕ → Marked
marked_byte levels u = record { byte = read_byte levels u; marked = read_mark levels u }

-- the symbols of data segment n
abbrev pub SegmentOf : (ℕ → ℤ) → ℕ → List ℤ → Type 0
SegmentOf levels n symbols = (p : ℕ) → p < 828 → slice_index_or symbols p (pos 0) ≡ levels (828 * n + p)

-- a quad's memory where so many of its 276 groups are read: the bytes begun hold their pairs
abbrev pub QuadRead : (ℕ → ℤ) → ℕ → ℕ → List Marked → Type 0
QuadRead levels number groups quad = (u : ℕ) → u < 828 → 4 * (u / 12) < groups → slice_index_or quad u blank ≡ part_of levels (828 * number + u) (min 4 (groups - 4 * (u / 12)))

-- the same of one encoder's bytes
abbrev pub LaneHeld : (ℕ → ℤ) → ℕ → ℕ → ℕ → List Marked → Type 0
LaneHeld levels number e groups quad = (u : ℕ) → u < 828 → byte_encoder (828 * number + u) ≡ e → 4 * (u / 12) < groups → slice_index_or quad u blank ≡ part_of levels (828 * number + u) (min 4 (groups - 4 * (u / 12)))

-- how many first symbols of each encoder are not doubted in data segment n
abbrev pub undoubted_in : ℕ → ℕ
undoubted_in n = cond (n == 0) 2 0

-- the reader after n data segments
pub record ReaderAfter (levels : ℕ → ℤ) (n : ℕ) (memories : List Memory) (undoubted : ℕ) : Type 0 where
  pub memories_are : (e : ℕ) → e < 12 → slice_index_or memories e new_memory ≡ memory_before levels e (69 * n)
  pub undoubted_is : undoubted ≡ undoubted_in n

-- what one encoder's lane leaves after `count` symbols
pub record LaneRead (levels : ℕ → ℤ) (n first place count : ℕ) (quad : List Marked) (memory : Memory) : Type 0 where
  pub memory_after : memory ≡ memory_before levels (lane_encoder n place) (69 * n + count)
  pub bytes_held : LaneHeld levels (n / 4) (lane_encoder n place) (first + count) quad

pub record ReadsLane (symbols : List ℤ) (first place undoubted count : ℕ) (before : Memory) (old quad : List Marked) (after : Memory) : Type 0 where
  pub others_stay : (u : ℕ) → ((g : ℕ) → g < count → u ≢ lane_byte first place (first + g)) → slice_index_or quad u blank ≡ slice_index_or old u blank
  pub by_history : (levels : ℕ → ℤ) (n : ℕ) → first ≡ 69 * (n % 4) → undoubted ≡ undoubted_in n → SegmentOf levels n symbols → before ≡ memory_before levels (lane_encoder n place) (69 * n)
      → LaneHeld levels (n / 4) (lane_encoder n place) first old → LaneRead levels n first place count quad after

-- the bits of a symbol are read, as pair 0, 1, 2 or 3 of a byte, into the part of the byte so far
pub record PairRead (bits : Bits) (asked : Bool) (pair : ℕ) (part new : Marked) (before after : Memory) : Type 0 where
  pub byte_after : new ≡ joined part pair (pair_of before bits asked)
  pub memory_after : after ≡ noted before bits

-- a memory goes on from symbol g of a lane to symbol r, whatever it read before
abbrev pub ReadsOn : List ℤ → ℕ → ℕ → ℕ → ℕ → ℕ → Memory → List Marked → Memory → List Marked → Type 0
ReadsOn symbols first place undoubted g r before old after quad = (start : Memory) (given : List Marked) → ReadsLane symbols first place undoubted g start given old before → ReadsLane symbols first place undoubted r start given quad after

-- one of the twelve lanes is read, and the other memories stay
pub record ReadsOne (symbols : List ℤ) (first place undoubted : ℕ) (e : ℕ) (before : List Memory) (old quad : List Marked) (after : List Memory) : Type 0 where
  pub lane : ReadsLane symbols first place undoubted 69 (slice_index_or before e new_memory) old quad (slice_index_or after e new_memory)
  pub others : (j : ℕ) → j ≢ e → slice_index_or after j new_memory ≡ slice_index_or before j new_memory

-- the reader after data segment n, and the quad's memory: after the quad's fourth segment all its bytes
pub record SegmentRead (levels : ℕ → ℤ) (n : ℕ) (quad : List Marked) (memories : List Memory) (undoubted : ℕ) : Type 0 where
  pub reader_after : ReaderAfter levels (n + 1) memories undoubted
  pub bytes_read : QuadRead levels (n / 4) (69 * (n % 4) + 69) quad
  pub quad_read : n % 4 ≡ 3 → (u : ℕ) → u < 828 → slice_index_or quad u blank ≡ marked_byte levels (828 * (n / 4) + u)

-- what reading leaves: for all levels received, the next data segment read; the bytes that begin later stay
pub record Reads (symbols : List ℤ) (segment : ℕ) (before : List Memory) (undoubted : ℕ) (old quad : List Marked) (after : List Memory) (undoubted_after : ℕ) : Type 0 where
  pub later_stay : (u : ℕ) → u < 828 → 69 * (segment % 4) + 69 ≤ 4 * (u / 12) → slice_index_or quad u blank ≡ slice_index_or old u blank
  pub by_history : (levels : ℕ → ℤ) (n : ℕ) → n % 12 ≡ segment % 12 → SegmentOf levels n symbols → ReaderAfter levels n before undoubted → QuadRead levels (n / 4) (69 * (n % 4)) old
      → SegmentRead levels n quad after undoubted_after
