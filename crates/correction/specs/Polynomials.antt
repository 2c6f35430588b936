-- Locators, their roots and the magnitudes at them, over bytes as elements of the field.
use Rattle.std.specs.Prelude.{◌≡◌, ℕ, ◌+◌, ◌-◌, ◌<◌, List, take, slice_index}
use Rattle.moments.proofs.Moments as M
use Rattle.rows.proofs.Bytes.{Byte, to_byte, add, mul, nil, one, laws}
use Rattle.rows.proofs.Values.{bytes, place}

-- entry k as an element of the field
abbrev pub entry : List ℕ → ℕ → Byte
entry l k = to_byte (slice_index l k)

-- the polynomial of degree d with the coefficients v, the lowest first
abbrev pub polynomial : List ℕ → ℕ → List Byte
polynomial v d = bytes (take (d + 1) v)

-- the polynomial's value at x
abbrev pub value_of : List Byte → Byte → Byte
value_of = M.eval Byte add mul nil one laws

-- the powers of 2 that belong to the places of a row of n, the highest first, at which the polynomial is zero
abbrev pub roots_of : List Byte → ℕ → List Byte
roots_of = M.roots Byte add mul nil one laws (to_byte 2)

-- the roots without x
abbrev pub others : Byte → List Byte → List Byte
others = M.but Byte add mul nil one laws

-- the product of x + r over the roots r
abbrev pub product_at : List Byte → Byte → Byte
product_at = M.out Byte add mul nil one laws

-- the syndromes with the roots taken out, one after another: each syndrome becomes the next plus the root times itself
abbrev pub taken_out : List Byte → (ℕ → Byte) → ℕ → Byte
taken_out = M.peel Byte add mul nil one laws

-- the magnitude at x: the syndromes with the other roots taken out, over the product at x of the other roots
abbrev pub magnitude_at : List Byte → (ℕ → Byte) → Byte → Byte
magnitude_at = M.value Byte add mul nil one laws

-- what is added at the place x: the magnitude where the polynomial is zero, and nothing elsewhere
abbrev pub correction_at : List Byte → List Byte → (ℕ → Byte) → Byte → Byte
correction_at = M.fixer Byte add mul nil one laws (to_byte 2)

-- the row with what is added at each place
abbrev pub corrected : (Byte → Byte) → List Byte → List Byte
corrected = M.mended Byte add mul nil one laws (to_byte 2)

-- entry k is the polynomial's value at the place of byte k, for every byte of a row of n
abbrev pub Values : List Byte → ℕ → List ℕ → Type 0
Values cs n l = (k : ℕ) → k < n → value_of cs (place (n - 1 - k)) ≡ to_byte (slice_index l k)
