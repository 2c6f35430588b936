use Rattle.std.proofs.Common.{◌≡◌, length, ap, ◌∙◌, rules}
use Rattle.randomizer.specs.Stages.{keys_from}
use Rattle.randomizer.specs.Packets.{randomized}
use Rattle.randomizer.proofs.Packets.{all_combined}
use Rattle.randomizer.proofs.combine.Goals as goal

pub returns-clause-after : goal.returns-clause-after
returns-clause-after c =
    let bytes = c.in_ok-bytes.bytes.now in
    let same : bytes ≡ c.args.bytes.now = search rules in
    let lb : length bytes ≡ 187 = search rules in
    let lo : length c.xor_each.new.out ≡ 187 = search rules in
    all_combined c.args.place bytes c.keys.result c.xor_each.new.out lb lo (c.keys.ensures ∙ ap (keys_from 192) c.first_state.ensures) c.xor_each.ensures ∙ ap (randomized c.args.place) same
