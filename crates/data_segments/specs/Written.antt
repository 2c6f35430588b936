-- What writing a data segment answers, and what it leaves.
use Rattle.std.specs.Prelude.{◌≡◌, ℕ, cond, List, drop, ℤ, Ok, Err, Result, ◌==◌}
use Rattle.refusal.specs.declared.Refusal.{Refusal}
use Rattle.refusal.specs.declared.Refusal.TheVariants.{WrongLength}
use Rattle.segments.specs.Segment.{data_segment}
use Rattle.trellis.specs.declared.writing.Trellis.{Trellis}
use Rattle.trellis.specs.Writer.{Writes}

-- refused where the quad has not 828 bytes, or the memory not 832 symbols
abbrev pub write_answer : ℕ → ℕ → Result (Unit {0}) Refusal
write_answer quad out = cond (quad == 828) (cond (out == 832) (Ok tt) (Err WrongLength)) (Err WrongLength)

-- the memory holds a data segment whose symbols are those that the encoders send for the quad
pub record SegmentWritten (quad : List ℕ) (segment : ℕ) (before : Trellis) (out : List ℤ) (after : Trellis) : Type 0 where
  pub synced : out ≡ data_segment (drop 4 out)
  pub symbols : Writes quad segment before.encoders (drop 4 out) after.encoders
