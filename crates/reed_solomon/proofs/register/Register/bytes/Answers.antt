use Rattle.std.proofs.Common.{◌≡◌, ◌∙◌, div-one, arith}
use Rattle.reed_solomon.specs.Held.{held, digits}
use Rattle.reed_solomon.proofs.Ends.{put_words}
use Rattle.reed_solomon.proofs.register.Register.bytes.Goals as goal

pub returns : goal.returns
unfolding held digits
returns c =
    let high : c.copy_from_slice.new.self ≡ digits 16 c.args.self.high = c.copy_from_slice.ensures.after ∙ simp div-one c.to_be_bytes.ensures in
    let low : c.copy_from_slice-2.new.self ≡ digits 4 c.args.self.low = c.copy_from_slice-2.ensures.after ∙ simp div-one c.to_be_bytes-2.ensures in
    put_words c.copy_from_slice.new.self c.copy_from_slice-2.new.self c.args.self.high c.args.self.low high low (omega arith)
