use Rattle.std.proofs.Common.{ap, ◌∙◌, arith}
use Rattle.galois.specs.Field.{gf_mul}
use Rattle.galois.proofs.Tables.{inverse_entry}
use Rattle.galois.proofs.inverse.Goals as goal

pub returns-else-a-eq0 : goal.returns-else-a-eq0
returns-else-a-eq0 c = ap (gf_mul c.args.a) c.raised.ensures ∙ inverse_entry c.args.a c.logarithm.result (omega arith) c.logarithm.ensures
