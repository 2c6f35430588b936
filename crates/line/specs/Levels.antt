-- Why symbols make no segment.
use Rattle.std.specs.Prelude.{cond, List, length, ℤ, Some, None, Option, ◌==◌}
use Rattle.level.specs.Level.{all_levels}
use Rattle.line.specs.Segment.{segment_length}
use Rattle.line.specs.declared.LineFault.{LineFault}
use Rattle.line.specs.declared.LineFault.TheVariants.{WrongLength, NotLevel}

-- why symbols make no segment: first their length, then what is no level
abbrev pub segment_fault : List ℤ → Option LineFault
segment_fault f = cond (length f == segment_length) (cond (all_levels f) None (Some NotLevel)) (Some WrongLength)
