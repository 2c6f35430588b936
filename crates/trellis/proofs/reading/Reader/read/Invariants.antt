use Rattle.trellis.proofs.Read.{ReadsSome}
use Rattle.trellis.proofs.reading.Reader.read.Given as goal

abbrev pub invariant-loop-place : goal.invariant-loop-place
invariant-loop-place l = ReadsSome l.symbols l.segment l.place l.initial.self.memories l.initial.self.undoubted l.initial.quad l.quad l.self.memories
