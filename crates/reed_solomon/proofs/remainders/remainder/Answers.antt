use Rattle.std.proofs.Common.{◌≡◌, ℕ, ◌-◌, List, length, get_or, take, drop, sym, ap, ◌∙◌, ap₂, arith, rules, tests}
use lib.Bits.{bit_xor}
use Rattle.std.proofs.lemmas.List.{ext_get_or}
use Rattle.rows.proofs.Coded.{length_remainder}
use Rattle.rows.proofs.Steps.{get_or_sum}
use Rattle.rows.specs.Parity.{parity, remainder}
use Rattle.tables.proofs.Arrays.{each_of}
use Rattle.reed_solomon.proofs.remainders.remainder.Goals as goal

pub returns : goal.returns
returns c =
    let row : List ℕ = c.args.row.now in
    let m : ℕ = length row - 20 in
    let h : ℕ → ℕ = λ k. bit_xor (get_or c.bytes-parity.result k 0) (get_or c.split_at.result.1.now k 0) in
    let each = each_of _ (λ k y. y ≡ h k) _ (λ k y q r. search (rules, tests)) c.from_fn.result 20 c.from_fn.ensures.items in
    ext_get_or 0 c.from_fn.result (remainder 20 row) (c.from_fn.ensures.items.long ∙ sym (length_remainder 20 row (omega arith)))
    (λ i l. each i 0 (omega arith) ∙ ap₂ bit_xor (ap (λ (xs : List ℕ). get_or xs i 0) (c.bytes-parity.ensures ∙ c.divided.ensures ∙ ap (parity 20) c.split_at.ensures.front)) (ap (λ (xs : List ℕ). get_or xs i 0) c.split_at.ensures.back) ∙ sym (get_or_sum (parity 20 (take m row)) (drop m row) i))
