use Rattle.std.proofs.Common.{◌≡◌, ℕ, ◌-◌, ◌≤◌, List, ◌++◌, length, take, sym, ap, ◌∙◌, ap₂, subst, arith, rules, tests}
use Rattle.rows.proofs.Coded.{bytes_coded, coded_is_code}
use Rattle.rows.proofs.Entries.{bytes_take}
use Rattle.rows.proofs.Unique.{only_completion}
use Rattle.rows.specs.Code.{Bytes, CodeRow}
use Rattle.rows.specs.Parity.{parity, coded}
use Rattle.reed_solomon.proofs.complete.Goals as goal

pub returns : goal.returns
returns c =
    let row : List ℕ = c.args.row.now in
    let m : ℕ = length row - 20 in
    let done : List ℕ = c.split_at_mut-front.result.0.now ++ c.copy_from_slice.new.self in
    let written : c.copy_from_slice.new.self ≡ parity 20 (take m row) = c.copy_from_slice.ensures.after ∙ c.bytes.ensures ∙ c.divided.ensures ∙ ap (parity 20) c.split_at_mut-front.ensures.front in
    let e : done ≡ coded 20 (take m row) = ap₂ (λ (xs ys : List ℕ). xs ++ ys) c.split_at_mut-front.ensures.front written in
    let byte : Bytes row = search rules in
    let small : Bytes (take m row) = bytes_take m row byte in
    let short : length row ≤ 255 = search (rules, tests) in
    let code : CodeRow 20 done = subst (CodeRow 20) (sym e) (coded_is_code 20 (take m row) small) in
    record {
      answer = search rules;
      after = e;
      code = code;
      only = λ other b l t C. only_completion 20 other done b (subst Bytes (sym e) (bytes_coded 20 (take m row) small)) l (omega arith) C code (t ∙ ap (λ (n : ℕ). take (n - 20) done) (sym l));
    }
