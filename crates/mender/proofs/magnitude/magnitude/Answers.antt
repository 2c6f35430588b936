use Rattle.std.proofs.Common.{ℕ, ◌≢◌, ap, ◌∙◌, arith}
use Rattle.rows.proofs.Bytes.{to_byte}
use Rattle.correction.proofs.Magnitudes.{taken_start, taken_over, taken_more, taken_ne, taken_all}
use Rattle.mender.proofs.magnitude.magnitude.Goals as goal
use Rattle.mender.proofs.magnitude.magnitude.Goals.{then-r-x, else-r-x}

pub loop-m-init : goal.loop-m-init
loop-m-init c = taken_start c.args.roots.now c.args.s.now c.args.x

pub loop-m-preserved : goal.loop-m-preserved
loop-m-preserved c =
    let at = c.args.roots.now in
    let s = c.args.s.now in
    let x : ℕ = c.args.x in
    let m : ℕ = c.loop-m.m in
    elim c.if-r-x.branch [
      | then-r-x w ↦
          rw (w.w-is, w.product-is)
          (taken_more at s x m c.loop-m.w w.take_out.new.w c.loop-m.product w.mul-product.result c.loop-m-test.true (omega arith) (omega arith) w.if-r-x.true
          w.take_out.ensures w.mul-product.type_inv w.mul-product.ensures c.loop-m.invariant)
      | else-r-x w ↦ rw (w.w-is, w.product-is) (taken_over at s x m c.loop-m.w c.loop-m.product c.loop-m-test.true w.if-r-x.false c.loop-m.invariant)
    ]

pub inverted-requires : goal.inverted-requires
inverted-requires c =
    let ne : c.loop-m.product ≢ 0 = taken_ne c.args.roots.now c.args.s.now c.args.x c.loop-m.m c.loop-m.product c.loop-m.w c.loop-m-test.false c.loop-m.invariant in
    omega arith

pub returns : goal.returns
returns c =
    ap to_byte c.mul.ensures
    ∙ taken_all c.args.roots.now c.args.s.now c.args.x c.loop-m.m c.loop-m.product c.inverted.result c.loop-m.w c.loop-m-test.false c.loop-m.invariant c.inverted.ensures
