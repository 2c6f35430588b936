use Rattle.std.proofs.Common.{◌≡◌, ℕ, ◌≤◌, true, List, sym, ap, ◌∙◌, subst, arith, lit≤, rules}
use Rattle.galois.specs.Field.{gf_power}
use Rattle.rows.specs.Code.{Bytes, CodeRow, row_value, differing}
use Rattle.rows.proofs.Coded.{left_over}
use Rattle.rows.proofs.Values.{bytes}
use Rattle.correction.specs.Polynomials.{entry, polynomial, correction_at, corrected}
use Rattle.correction.proofs.Corrected.{near_is_corrected}
use Rattle.mender.proofs.search.Goals as goal
use Rattle.mender.proofs.search.Goals.{else-wrong-le-MOST-via-then-wrong-le-MOST+else-is_code, else-wrong-le-MOST-via-else-wrong-le-MOST}

pub returns-else-wrong-le-MOST : goal.returns-else-wrong-le-MOST
returns-else-wrong-le-MOST c near N =
    let row : List ℕ = c.args.row.now in
    let out : List ℕ = c.correct.new.row in
    let L = c.find-locator.result in
    let at : List ℕ = c.find-roots.result.at.items in
    let s : List ℕ = c.syndromes-s.result in
    let few : L.degree ≤ 10 = L.few in
    let br : Bytes row = search rules in
    let bo : Bytes out = search rules in
    let same : out ≡ near =
    near_is_corrected 20 row out s L.coefficients at near L.degree (omega arith) (lit≤ tt) (omega arith)
    (λ k h. c.syndromes-s.ensures k h ∙ ap (λ (l : List ℕ). row_value l (gf_power 2 k)) c.requires.left ∙ left_over 20 row (omega arith) br k h)
    c.find-locator.ensures c.find-roots.ensures.are
    (c.correct.ensures ∙ ap (λ (l : List ℕ). corrected (correction_at (polynomial L.coefficients L.degree) (bytes at) (entry s)) (bytes l)) c.copy_from_slice.ensures.after) bo N in
    elim c.else-wrong-le-MOST.branch [
      | else-wrong-le-MOST-via-then-wrong-le-MOST+else-is_code w ↦
          let t : w.is_code.result ≡ true = w.is_code.ensures.1 (record { long = omega arith; short = omega arith; code = subst (CodeRow 20) (sym same) N.code }) in
          let f = w.if-is_code.false in
          cc
      | else-wrong-le-MOST-via-else-wrong-le-MOST w ↦
          let e : c.distance-wrong.result ≡ differing row near = c.distance-wrong.ensures ∙ ap (differing row) same in
          let n = N.near in
          let q = w.if-wrong-le-MOST.false in
          omega arith
    ]
