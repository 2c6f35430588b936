-- Rows of bytes as polynomials: the first byte belongs to the highest power, the last to the power 0.
use Rattle.std.specs.Prelude.{◌≡◌, ℕ, suc, ◌-◌, ◌<◌, ◌≤◌, cond, List, [], ◌∷◌, length, take, ◌==◌, bit_xor, slice_index}
use Rattle.galois.specs.Field.{gf_mul, gf_power}

-- every entry is a byte
abbrev pub Bytes : List ℕ → Type 0
Bytes row = (k : ℕ) → slice_index row k < 256

-- the value of the row at x
unfoldable pub row_value : List ℕ → ℕ → ℕ
row_value [] x = 0
row_value (b ∷ bs) x = bit_xor (gf_mul b (gf_power x (length bs))) (row_value bs x)

-- a code row with p parity bytes is zero at the first p powers of 2
abbrev pub CodeRow : ℕ → List ℕ → Type 0
CodeRow p row = (i : ℕ) → i < p → row_value row (gf_power 2 i) ≡ 0

-- in how many places two rows differ
abbrev pub differing : List ℕ → List ℕ → ℕ
differing [] bs = 0
differing (x ∷ xs) [] = 0
differing (x ∷ xs) (y ∷ ys) = cond (x == y) (differing xs ys) (suc (differing xs ys))

-- two code rows of the same length, at most n, that differ in at most p places are equal
abbrev pub CodeRowsEqual : ℕ → Type 0
CodeRowsEqual n = (p : ℕ) (a b : List ℕ) → Bytes a → Bytes b → length a ≡ length b → length a ≤ n → CodeRow p a → CodeRow p b → differing a b ≤ p → a ≡ b

-- two code rows of the same length, at most n, that agree before the last p bytes are equal
abbrev pub OnlyCompletion : ℕ → Type 0
OnlyCompletion n =
    (p : ℕ) (a b : List ℕ) → Bytes a → Bytes b → length a ≡ length b → length a ≤ n → CodeRow p a → CodeRow p b → take (length a - p) a ≡ take (length a - p) b → a ≡ b
