use Rattle.std.proofs.Common.{◌≡◌, get_or, rules, tests}
use lib.Bits.{bit_xor}
use Rattle.galois.specs.Field.{gf_mul, gf_power}
use Rattle.tables.proofs.Arrays.{each_of}
use Rattle.mender.proofs.syndromes.fold.Goals as goal

pub returns : goal.returns
returns c =
    λ k l. each_of _ (λ k y. y ≡ bit_xor (gf_mul (get_or c.args.s.now k 0) (gf_power 2 k)) c.args.byte) _ (λ k y q r. search (rules, tests)) c.from_fn.result 20 c.from_fn.ensures.items k 0 l
