-- What a mended row is.
use Rattle.std.specs.Prelude.{◌≡◌, ℕ, ◌<◌, List, Some, None, Ok, Err, Option, Result}
use Rattle.refusal.specs.declared.Refusal.{Refusal}
use Rattle.rows.specs.Code.{CodeRow, differing}
use Rattle.correction.specs.Near.{Near}
use Rattle.mender.specs.declared.Mending.{Mending}
use Rattle.mender.specs.declared.Mending.TheVariants.{Clean, Mended as MendedBy, Spoiled}

-- no code row with p parity bytes is near the row
abbrev pub NoneNear : ℕ → List ℕ → Type 0
NoneNear p row = (c : List ℕ) → Near p row c → ⊥

-- clean: the row is a code row, and stays; mended: it becomes the code row near it, which differs in so many bytes, at least one; spoiled: no code row is near, and it stays
abbrev pub Mended : ℕ → List ℕ → List ℕ → Mending → Type 0
Mended p before after Clean = CodeRow p before × (after ≡ before)
Mended p before after (MendedBy wrong) = Near p before after × (differing before after ≡ wrong) × (0 < wrong)
Mended p before after Spoiled = NoneNear p before × (after ≡ before)

-- whether a row was accepted
abbrev pub accepted : Result Mending Refusal → Result (Unit {0}) Refusal
accepted (Ok m) = Ok tt
accepted (Err e) = Err e

-- some: the candidate is near, and differs in so many bytes; none: no code row is near
abbrev pub Searched : ℕ → List ℕ → List ℕ → Option ℕ → Type 0
Searched p row candidate (Some wrong) = Near p row candidate × (differing row candidate ≡ wrong)
Searched p row candidate None = NoneNear p row
