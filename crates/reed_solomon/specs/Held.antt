-- The two words of the division's register as 20 bytes.
use Rattle.std.specs.Prelude.{ℕ, zero, suc, ◌+◌, ◌*◌, ◌/◌, ◌%◌, ◌^◌, List, [], ◌∷◌}
use Rattle.reed_solomon.specs.declared.register.Register.{Register}
use Rattle.rows.specs.Parity.{generator, division_step}

-- the n low bytes of w, the highest first
unfoldable pub digits : ℕ → ℕ → List ℕ
digits zero w = []
digits (suc n) w = w / 2 ^ (8 * n) % 256 ∷ digits n w

-- the two words as one number
abbrev pub whole : Register → ℕ
whole r = r.high * 2 ^ 32 + r.low

-- the 20 bytes that the register holds
unfoldable pub held : Register → List ℕ
held r = digits 20 (whole r)

-- what division of X^20 by the generator leaves
abbrev pub left_20 : List ℕ
left_20 = generator 20

-- one step of the division by the generator
abbrev pub step : List ℕ → ℕ → List ℕ
step r b = division_step left_20 r b

-- what division of X^21 by the generator leaves
abbrev pub left_21 : List ℕ
left_21 = step left_20 0

-- what division of X^(20 + k) by the generator leaves
abbrev pub left_after : ℕ → List ℕ
left_after zero = left_20
left_after (suc k) = step (left_after k) 0
