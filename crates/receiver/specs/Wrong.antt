-- The wrong bytes that a result tells.
use Rattle.std.specs.Prelude.{ℕ}
use Rattle.mender.specs.declared.Mending.{Mending}
use Rattle.mender.specs.declared.Mending.TheVariants.{Clean, Mended, Spoiled}

-- how many bytes came in other than in the row handed out: none where it is spoiled
abbrev pub wrong_bytes : Mending → ℕ
wrong_bytes Clean = 0
wrong_bytes (Mended wrong) = wrong
wrong_bytes Spoiled = 0
