-- How far the elimination has come with the pivots of the ten equations.
use Rattle.std.specs.Prelude.{ℕ, List, Option}
use Rattle.correction.specs.Equations.{Eliminated}
use Rattle.mender.specs.declared.locator.Pivot.{Pivot}

-- j of the equations have a pivot
abbrev pub HasPivots : ℕ → List ℕ → List (Option Pivot) → Type 0
HasPivots j s pivots = Eliminated (λ (p : Pivot). p.polynomial) (λ (p : Pivot). p.inverse) 10 j s pivots
