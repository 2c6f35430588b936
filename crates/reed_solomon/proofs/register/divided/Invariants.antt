use Rattle.std.proofs.Common.{◌≡◌, ◌*◌, take}
use Rattle.reed_solomon.specs.Held.{held}
use Rattle.rows.specs.Parity.{parity}
use Rattle.reed_solomon.proofs.register.divided.Given as goal

abbrev pub invariant-loop-a : goal.invariant-loop-a
invariant-loop-a l = held l.left ≡ parity 20 (take (2 * l.a-index) l.bytes)
