use Rattle.std.proofs.Common.{◌+◌, set}
use Rattle.trellis.specs.Reader.{ReadsOn}
use Rattle.trellis.proofs.reading.MemoryCoderSymbolsArrayMarked828.byte.Given as goal

abbrev pub invariant-loop-pair : goal.invariant-loop-pair
invariant-loop-pair l = ReadsOn l.symbols.levels.now l.lane.first l.lane.place l.symbols.undoubted l.g (l.g + l.pair) l.initial.self l.quad l.self (set l.quad l.u l.part)
