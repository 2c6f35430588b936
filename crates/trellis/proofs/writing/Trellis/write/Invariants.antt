use Rattle.std.proofs.Common.{◌≡◌, length}
use Rattle.trellis.proofs.Write.{WritesSome}
use Rattle.trellis.proofs.writing.Trellis.write.Given as goal

abbrev pub invariant-loop-place : goal.invariant-loop-place
invariant-loop-place l = record { whole : length l.out ≡ 828; some : WritesSome l.quad l.segment l.place l.initial.self.encoders l.out l.self.encoders }
