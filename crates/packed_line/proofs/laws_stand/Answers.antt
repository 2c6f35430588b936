use Rattle.packed_line.proofs.Packs.{unpacked_length, unpacked_levels}
use Rattle.packed_line.proofs.laws_stand.Goals as goal

pub returns-clause-whole : goal.returns-clause-whole
returns-clause-whole c = λ bytes h. record { long = unpacked_length 104 bytes h; levels = unpacked_levels bytes }
