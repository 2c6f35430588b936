use Rattle.std.proofs.Common.{◌≡◌, ◌++◌, map, take, drop}
use Rattle.segments.specs.Segment.{copied_level}
use Rattle.segments.proofs.keep_levels.Given as goal

abbrev pub invariant-loop-symbol : goal.invariant-loop-symbol
invariant-loop-symbol l = l.symbols ≡ map copied_level (take l.symbol-index l.initial.symbols) ++ drop l.symbol-index l.initial.symbols
