-- Counting by what agrees.
use Rattle.std.specs.Prelude.{ℕ, ◌+◌, Bool, true, false}
use Rattle.vectors.specs.declared.tally.Tally.{Tally}

-- how many agree, and how many do not
abbrev pub counts_of : Tally → ℕ × ℕ
counts_of tally = (tally.equal, tally.different)

-- how many are counted
abbrev pub total_of : Tally → ℕ
total_of tally = tally.equal + tally.different

-- one more, by whether it agrees
abbrev pub counted : ℕ × ℕ → Bool → ℕ × ℕ
counted counts true = (counts.0 + 1, counts.1)
counted counts false = (counts.0, counts.1 + 1)
