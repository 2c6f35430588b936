use Rattle.std.proofs.Common.{◌≡◌, ◌*◌, ◌%◌, get_or, rules, tests}
use Rattle.galois.specs.Field.{gf_mul, gf_power}
use Rattle.tables.proofs.Arrays.{each_of}
use Rattle.mender.proofs.roots.terms.Goals as goal

pub returns : goal.returns
returns c =
    λ j l. each_of _ (λ j y. y ≡ gf_mul (get_or c.args.locator.now.coefficients j 0) (gf_power 2 (c.args.m * j % 255))) _ (λ j y q r. search (rules, tests)) c.from_fn.result 11 c.from_fn.ensures.items j 0 l
