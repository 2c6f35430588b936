-- Bytes written as hexadecimal digits.
use Rattle.std.specs.Prelude.{◌≡◌, ℕ, ◌+◌, ◌-◌, ◌*◌, cond, ◌&&◌, List, [], ◌∷◌, Some, None, Ok, Err, vec_items, Option, Result, Vec, nat_le}
use Rattle.std.specs.declared.alloc.Global.{Global}
use Rattle.vectors.specs.declared.VectorError.{VectorError}
use Rattle.vectors.specs.declared.VectorError.TheVariants.{Malformed, NoMemory}

-- the value of the digit c: 0 to 9, and a to f
abbrev pub digit_value : ℕ → Option ℕ
digit_value c = cond (nat_le 48 c && nat_le c 57) (Some (c - 48)) (cond (nat_le 97 c && nat_le c 102) (Some (c - 97 + 10)) None)

-- the byte of two digits
abbrev pub both : Option ℕ → Option ℕ → Option ℕ
both (Some h) (Some l) = Some (16 * h + l)
both (Some h) None = None
both None l = None

-- the byte of two digits, the higher first
abbrev pub pair_value : ℕ → ℕ → Option ℕ
pair_value high low = both (digit_value high) (digit_value low)

-- a byte in front of further bytes
abbrev pub joined : Option ℕ → Option (List ℕ) → Option (List ℕ)
joined (Some b) (Some bs) = Some (b ∷ bs)
joined (Some b) None = None
joined None bs = None

-- the bytes of the digits, two digits to a byte
unfoldable pub hex_value : List ℕ → Option (List ℕ)
hex_value [] = Some []
hex_value (a ∷ []) = None
hex_value (a ∷ (b ∷ cs)) = joined (pair_value a b) (hex_value cs)

-- what reading the digits answers
abbrev pub Read : List ℕ → Result (Vec ℕ Global) VectorError → Type 0
Read cs (Ok v) = hex_value cs ≡ Some (vec_items v)
Read cs (Err Malformed) = hex_value cs ≡ None
Read cs (Err NoMemory) = Unit {0}
