use Rattle.std.proofs.Common.{replicate, ap, ◌∙◌}
use lib.ListN.{get_or-replicate}
use Rattle.trellis.specs.declared.encoding.Encoder.{Encoder}
use Rattle.trellis.specs.Sent.{new_encoder, encoder_before}
use Rattle.trellis.proofs.writing.Trellis.new.Goals as goal

pub returns : goal.returns
unfolding encoder_before
returns c =
    record {
      new = ap (λ (x : Encoder). replicate 12 x) c.new-encoders.ensures;
      history = λ bytes e l. get_or-replicate 12 e c.new-encoders.result new_encoder l ∙ c.new-encoders.ensures;
    }
