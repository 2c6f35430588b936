use Rattle.std.proofs.Common.{ℕ, get_or, sym, ap, ◌∙◌, arith}
use native.Mathlib.Decide.{dec_lt}
use lib.Bits.{bit_xor, xor_zero_r}
use Rattle.galois.specs.Field.{gf_mul}
use Rattle.galois.proofs.Laws.{mul_zero_right}
use Rattle.mender.proofs.locator.add_multiple.Goals as goal

pub returns : goal.returns
returns c k h =
    let x : ℕ = get_or c.args.v.now k 0 in
    elim (dec_lt k c.loop-k.k) [
      | yes q ↦ c.loop-k.invariant.done k q
      | no q ↦
          c.loop-k.invariant.left k (omega arith)
          ∙ sym (ap (λ (y : ℕ). bit_xor x (gf_mul c.args.c y)) (c.requires.zero_behind k (omega arith)) ∙ ap (bit_xor x) (mul_zero_right c.args.c) ∙ xor_zero_r x)
    ]
