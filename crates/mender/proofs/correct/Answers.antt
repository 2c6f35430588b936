use Rattle.std.proofs.Common.{◌≡◌, ℕ, ◌-◌, ◌<◌, List, length, get_or, take, sym, ap, ◌∙◌, arith, lit<}
use Rattle.moments.proofs.Moments as M
use Rattle.rows.proofs.Bytes.{Byte, to_byte, add, mul, nil, one, laws, to_byte_eq}
use Rattle.rows.proofs.Values.{bytes, place, to_byte_power}
use Rattle.correction.specs.Polynomials.{entry, polynomial, value_of, magnitude_at, correction_at}
use Rattle.correction.proofs.Corrected.{corrected_entries, corrected_kept, corrected_added}
use Rattle.correction.proofs.Roots.{values_taken}
use Rattle.mender.proofs.correct.Goals as goal
use Rattle.mender.proofs.correct.Goals.{then-value-eq0, else-value-eq0}

pub loop-i-preserved : goal.loop-i-preserved
loop-i-preserved c =
    let row : List ℕ = c.args.row.now in
    let i : ℕ = c.loop-i.i in
    let cs : List Byte = polynomial c.args.locator.now.coefficients c.args.locator.now.degree in
    let rs : List Byte = bytes c.args.roots.now.at.items in
    let s : ℕ → Byte = entry c.args.s.now in
    let m : ℕ = length row - 1 - i in
    let y : ℕ = get_or (take (length row) c.args.roots.now.values) i 0 in
    let hi : i < length row = omega arith in
    let here : value_of cs (place m) ≡ to_byte y = values_taken cs (length row) c.args.roots.now.values i c.requires.values hi in
    elim c.if-value-eq0.branch [
      | then-value-eq0 w ↦
          rw w.row-is
          (corrected_added (correction_at cs rs s) row c.loop-i.row i c.loop-i.invariant w.magnitude.result (omega arith)
          (w.magnitude.ensures ∙ ap (λ (l : List ℕ). magnitude_at (bytes l) s (to_byte w.power.result)) w.as_slice.ensures.value ∙ ap (magnitude_at rs s) (ap to_byte w.power.ensures ∙ to_byte_power 2 m)
          ∙ sym (M.fixer_hit Byte add mul nil one laws (to_byte 2) cs rs s (place m) (here ∙ ap to_byte w.if-value-eq0.true))))
      | else-value-eq0 w ↦
          rw w.row-is
          (corrected_kept (correction_at cs rs s) row c.loop-i.row i c.loop-i.invariant
          (M.fixer_miss Byte add mul nil one laws (to_byte 2) cs rs s (place m) (λ q. w.if-value-eq0.false (to_byte_eq y 0 (omega arith) (lit< tt) (sym here ∙ q)))))
    ]

pub returns : goal.returns
returns c =
    corrected_entries (correction_at (polynomial c.args.locator.now.coefficients c.args.locator.now.degree) (bytes c.args.roots.now.at.items) (entry c.args.s.now)) c.args.row.now c.loop-i.row (omega arith)
    (λ k h. c.loop-i.invariant.done k (omega arith))
