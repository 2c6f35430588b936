use Rattle.std.proofs.Common.{arith}
use Rattle.galois.proofs.Powers.{log}
use Rattle.galois.proofs.Tables.{logarithms, logarithms_entry}
use Rattle.galois.proofs.logarithms.logarithm.Goals as goal

pub returns : goal.returns
unfolding logarithms log
returns c = logarithms_entry c.args.a (omega arith)
