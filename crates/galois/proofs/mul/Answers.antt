use Rattle.std.proofs.Common.{◌∙◌}
use Rattle.galois.proofs.Tables.{product_entry}
use Rattle.galois.proofs.mul.Goals as goal

pub returns : goal.returns
returns c =
    c.raised.ensures ∙ product_entry c.args.a c.args.b c.logarithm.result c.logarithm-2.result c.logarithm.ensures c.logarithm-2.ensures
