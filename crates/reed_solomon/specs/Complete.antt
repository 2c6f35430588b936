-- Completing a row: which lengths are accepted, and what makes the completed row the only one.
use Rattle.std.specs.Prelude.{◌≡◌, ℕ, ◌+◌, ◌-◌, ◌<◌, ◌≤◌, cond, List, length, take, Ok, Err, Result, nat_lt}
use Rattle.refusal.specs.declared.Refusal.{Refusal}
use Rattle.refusal.specs.declared.Refusal.TheVariants.{WrongLength}
use Rattle.rows.specs.Code.{Bytes, CodeRow}
use Rattle.rows.specs.Parity.{remainder}

-- a row of n bytes with p parity bytes has at least one byte more, and at most 255
abbrev pub complete_answer : ℕ → ℕ → Result (Unit {0}) Refusal
complete_answer p n = cond (nat_lt n (p + 1)) (Err WrongLength) (cond (nat_lt 255 n) (Err WrongLength) (Ok tt))

-- all but the last p bytes
abbrev pub front : ℕ → List ℕ → List ℕ
front p row = take (length row - p) row

-- every code row of bytes that has the row's length and its bytes before the last p is the row
abbrev pub OnlyCodeRow : ℕ → List ℕ → Type 0
OnlyCodeRow p row = (other : List ℕ) → Bytes other → length other ≡ length row → front p other ≡ front p row → CodeRow p other → other ≡ row

-- the row has at least one byte before its p parity bytes, at most 255 bytes, and is a code row
pub record Codeword (p : ℕ) (row : List ℕ) : Type 0 where
  pub long : p < length row
  pub short : length row ≤ 255
  pub code : CodeRow p row

-- the remainder of a row that has at least one byte before its p parity bytes, and at most 255
abbrev pub remainder_answer : ℕ → List ℕ → Result (List ℕ) Refusal
remainder_answer p row = cond (nat_lt (length row) (p + 1)) (Err WrongLength) (cond (nat_lt 255 (length row)) (Err WrongLength) (Ok (remainder p row)))
