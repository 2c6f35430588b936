-- Damaged symbols, touched bytes and bursts.
use Rattle.std.specs.Prelude.{◌≡◌, Bool, true, false, ◌||◌, ℕ, zero, suc, ◌+◌, ◌*◌, ◌/◌, ◌%◌, ◌<◌, ◌≤◌}
use Rattle.segments.specs.Report.{count}
use Rattle.trellis.specs.Places.{symbol_of, byte_encoder}
use Rattle.stream.specs.Sent.{row_place, data_number}

-- the place of data symbol k on a line whose first segment has the number `first`
abbrev pub symbol_place : ℕ → ℕ → ℕ
symbol_place first k = 832 * (first + data_number (k / 828)) + (4 + k % 828)

-- whether the symbol that encoder e had just before group q is damaged: it had none before its first
abbrev pub damaged_before : (ℕ → Bool) → ℕ → ℕ → Bool
damaged_before damaged e zero = false
damaged_before damaged e (suc q) = damaged (symbol_of e q)

-- whether one of the c symbols of encoder e from group q on is damaged
abbrev pub damaged_from : (ℕ → Bool) → ℕ → ℕ → ℕ → Bool
damaged_from damaged e q zero = false
damaged_from damaged e q (suc c) = damaged_from damaged e q c || damaged (symbol_of e (q + c))

-- whether interleaved byte u is touched: one of its four symbols is damaged, or the one that its encoder had just before them
unfoldable pub touched : (ℕ → Bool) → ℕ → Bool
touched damaged u = damaged_before damaged (byte_encoder u) (4 * (u / 12)) || damaged_from damaged (byte_encoder u) (4 * (u / 12)) 4

-- how many bytes of row t are touched
unfoldable pub touched_in_row : (ℕ → Bool) → ℕ → ℕ
touched_in_row damaged t = count (λ j. touched damaged (row_place (207 * t + j))) 207

-- all damaged data symbols lie in bursts of at most 2,005 symbols, with at least 44,000 undamaged ones between two neighbours
pub record InBursts (damaged : ℕ → Bool) : Type 0 where
  -- the first symbol of burst b, and the first one behind it
  pub begins : ℕ → ℕ
  pub ends : ℕ → ℕ
  pub in_order : (b : ℕ) → begins b ≤ ends b
  pub short : (b : ℕ) → ends b ≤ begins b + 2005
  pub apart : (b : ℕ) → ends b + 44000 ≤ begins (b + 1)
  pub covered : (k : ℕ) → damaged k ≡ true → (b : ℕ) × (begins b ≤ k) × (k < ends b)
