use Rattle.std.proofs.Common.{◌≡◌, length, rules}
use Rattle.randomizer.proofs.Rows.{row_done}
use Rattle.randomizer.proofs.row.code_packet.Goals as goal

pub returns : goal.returns
returns c =
    let lp : length c.args.packet.now ≡ 188 = search rules in
    let lr : length c.args.row.now ≡ 207 = search rules in
    let d = row_done c.args.place c.args.packet.now c.args.row.now c.combine.new.out c.complete.new.row c.complete.result lp lr c.in_ok-combine.ensures.after c.complete.ensures.answer c.complete.ensures.after in
    record { answer = d.0; after = d.1 }
