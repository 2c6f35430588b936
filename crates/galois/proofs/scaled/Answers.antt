use Rattle.std.proofs.Common.{◌∙◌, arith}
use Rattle.galois.proofs.Tables.{scaled_entry}
use Rattle.galois.proofs.scaled.Goals as goal

pub returns : goal.returns
returns c = c.raised.ensures ∙ scaled_entry c.args.a c.args.k c.logarithm.result c.logarithm.ensures (omega arith)
