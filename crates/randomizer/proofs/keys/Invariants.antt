use Rattle.std.proofs.Common.{◌≡◌, ◌*◌, length, take}
use Rattle.randomizer.specs.Stages.{after, keys_from}
use Rattle.randomizer.proofs.keys.Given as goal

abbrev pub invariant-loop-block : goal.invariant-loop-block
invariant-loop-block l =
    (length l.keys ≡ 192) × (l.state ≡ after (8 * l.block) l.first) × (take (8 * l.block) l.keys ≡ keys_from (8 * l.block) l.first)
