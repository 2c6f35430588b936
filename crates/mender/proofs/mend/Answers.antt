use Rattle.std.proofs.Common.{◌≡◌, ℕ, ◌<◌, ◌≤◌, Bool, true, false, cond, ltb, List, length, Ok, Err, Result, sym, refl, ◌∙◌, subst, arith, lit≤, rules}
use native.Mathlib.Decide.{dec_lt}
use Rattle.refusal.specs.declared.Refusal.{Refusal}
use Rattle.refusal.specs.declared.Refusal.TheVariants.{WrongLength}
use Rattle.reed_solomon.specs.Complete.{remainder_answer}
use Rattle.rows.specs.Code.{Bytes, CodeRow, differing}
use Rattle.rows.specs.Parity.{remainder}
use Rattle.rows.proofs.Coded.{blank_code, code_blank}
use Rattle.correction.specs.Near.{Near}
use Rattle.correction.proofs.Corrected.{differing_nowhere}
use Rattle.mender.proofs.mend.Goals as goal

-- what an accepted row leaves
left_is : (row : List ℕ) {left : List ℕ} → Ok left ≡ remainder_answer 20 row → left ≡ remainder 20 row
left_is row {left} e = go (ltb (length row) 21) (ltb 255 (length row)) e
  where
    go : (a b : Bool) → ◌≡◌ {A = Result (List ℕ) Refusal} (Ok left) (cond a (Err WrongLength) (cond b (Err WrongLength) (Ok (remainder 20 row)))) → left ≡ remainder 20 row
    go true b q = cc
    go false true q = cc
    go false false q = cc

-- a code row near a row that is none differs from it
some_wrong : (p : ℕ) (row out : List ℕ) → (CodeRow p row → ⊥) → Near p row out → 0 < differing row out
some_wrong p row out n N =
    elim (dec_lt 0 (differing row out)) [
      | yes h ↦ h
      | no h ↦ absurd (n (subst (CodeRow p) (sym (differing_nowhere row out (sym N.long) (omega arith))) N.code))
    ]

pub returns-then-blank-clause-after : goal.returns-then-blank-clause-after
returns-then-blank-clause-after c =
    let row : List ℕ = c.args.row.now in
    let byte : Bytes row = search rules in
    let long : 20 ≤ length row = search rules in
    (blank_code 20 row long byte (sym (left_is row c.in_ok-left.ensures) ∙ c.blank.ensures.0 c.if-blank.true), refl)

pub returns-in-Some-clause-after : goal.returns-in-Some-clause-after
returns-in-Some-clause-after c =
    let row : List ℕ = c.args.row.now in
    let byte : Bytes row = search rules in
    let long : 20 ≤ length row = search rules in
    let near = c.in-Some.ensures in
    let no_code : CodeRow 20 row → ⊥ = λ C. let t : c.blank.result ≡ true = c.blank.ensures.1 (left_is row c.in_ok-left.ensures ∙ code_blank 20 row long (lit≤ tt) byte C) in let f = c.if-blank.false in cc in
    rw c.copy_from_slice.ensures.after (near.0, near.1, rw (← near.1) (some_wrong 20 row c.search.new.candidate no_code near.0))
