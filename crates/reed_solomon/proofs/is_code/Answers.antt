use Rattle.std.proofs.Common.{◌≡◌, ◌≤◌, ◌<◌, length, sym, ◌∙◌, lit≤, rules, tests, arith}
use Rattle.rows.proofs.Coded.{blank_code, code_blank}
use Rattle.rows.specs.Code.{Bytes}
use Rattle.rows.specs.Parity.{remainder}
use Rattle.reed_solomon.proofs.is_code.Goals as goal

pub returns-in-Ok : goal.returns-in-Ok
returns-in-Ok c =
    let row = c.args.row.now in
    let byte : Bytes row = search rules in
    let long : 20 < length row = search (rules, tests) in
    let short : length row ≤ 255 = search (rules, tests) in
    let left : c.in-Ok.left ≡ remainder 20 row = search (rules, tests) in (
      λ e. record { long = long; short = short; code = blank_code 20 row (omega arith) byte (sym left ∙ c.blank.ensures.0 e) },
      λ C. c.blank.ensures.1 (left ∙ code_blank 20 row (omega arith) (lit≤ tt) byte C.code),
    )
