-- The systematic coder: the data, and behind it what division by the generator leaves.
use Rattle.std.specs.Prelude.{ℕ, zero, suc, ◌-◌, List, [], ◌∷◌, ◌++◌, map, length, take, drop, replicate, bit_xor}
use Rattle.galois.specs.Field.{gf_mul, gf_power}

-- every byte of the row times f
abbrev pub scaled : ℕ → List ℕ → List ℕ
scaled f row = map (gf_mul f) row

-- two rows added place by place
unfoldable pub row_sum : List ℕ → List ℕ → List ℕ
row_sum [] ys = ys
row_sum (x ∷ xs) [] = x ∷ xs
row_sum (x ∷ xs) (y ∷ ys) = bit_xor x y ∷ row_sum xs ys

-- the product of c * X^n + row, n the length of the row, with X + a: without its first coefficient, which is c
unfoldable pub times_factor : ℕ → ℕ → List ℕ → List ℕ
times_factor a c [] = gf_mul a c ∷ []
times_factor a c (x ∷ xs) = bit_xor x (gf_mul a c) ∷ times_factor a x xs

-- the generator: the product of X + 2^i for i below p, without its first coefficient, which is 1
unfoldable pub generator : ℕ → List ℕ
generator zero = []
generator (suc p) = times_factor (gf_power 2 p) 1 (generator p)

-- one step of the division by g: the byte b is added to the first byte of what is left so far, and that multiple of g is taken off
unfoldable pub division_step : List ℕ → List ℕ → ℕ → List ℕ
division_step g [] b = []
division_step g (a ∷ r) b = row_sum (r ++ (0 ∷ [])) (scaled (bit_xor b a) g)

-- the steps for each byte of the data in turn, from r on
unfoldable pub division : List ℕ → List ℕ → List ℕ → List ℕ
division g r [] = r
division g r (b ∷ bs) = division g (division_step g r b) bs

-- the p parity bytes of the data: what division of the data times X^p by the generator leaves
unfoldable pub parity : ℕ → List ℕ → List ℕ
parity p bytes = division (generator p) (replicate p 0) bytes

-- the data with its p parity bytes behind it
abbrev pub coded : ℕ → List ℕ → List ℕ
coded p bytes = bytes ++ parity p bytes

-- what division of the row itself by the generator leaves: the parity of all but the last p bytes, and the last p bytes added
abbrev pub remainder : ℕ → List ℕ → List ℕ
remainder p row = row_sum (parity p (take (length row - p) row)) (drop (length row - p) row)
