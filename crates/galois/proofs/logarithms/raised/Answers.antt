use Rattle.galois.specs.Field.{times_x}
use Rattle.galois.proofs.Tables.{powers, powers_entry}
use Rattle.galois.proofs.logarithms.raised.Goals as goal

pub returns : goal.returns
unfolding powers times_x
returns c = powers_entry c.args.k c.requires
