use Rattle.std.proofs.Common.{ℕ, List, get_or, sym, ap, ◌∙◌, arith}
use lib.Bits.{bit_xor}
use Rattle.std.proofs.lemmas.List.{get_or-replicate}
use Rattle.galois.specs.Field.{gf_mul, gf_power}
use Rattle.rows.specs.Code.{row_value}
use Rattle.correction.proofs.Syndromes.{value_more}
use Rattle.mender.proofs.syndromes.syndromes.Goals as goal

pub loop-byte-init : goal.loop-byte-init
unfolding row_value
loop-byte-init c k h = get_or-replicate 20 k 0 0 h

pub loop-byte-preserved : goal.loop-byte-preserved
loop-byte-preserved c k h =
    let row : List ℕ = c.args.row.now in
    let i : ℕ = c.loop-byte.byte-index in
    c.fold-s.ensures k h ∙ ap (λ (x : ℕ). bit_xor (gf_mul x (gf_power 2 k)) (get_or row i 0)) (c.loop-byte.invariant k h) ∙ sym (value_more row i (gf_power 2 k) c.fits-row (omega arith))
