-- Code rows near a row, and near a row of which some bytes are marked.
use Rattle.std.specs.Prelude.{◌≡◌, ℕ, suc, ◌+◌, ◌*◌, ◌/◌, ◌≤◌, Bool, cond, List, [], ◌∷◌, length, ◌==◌}
use Rattle.rows.specs.Code.{Bytes, CodeRow, differing, CodeRowsEqual}

-- c is a code row with p parity bytes, of bytes and as long as the row, that differs from it in at most p / 2 places
pub record Near (p : ℕ) (row c : List ℕ) : Type 0 where
  pub long : length c ≡ length row
  pub byte : Bytes c
  pub code : CodeRow p c
  pub near : differing row c ≤ p / 2

-- how many places are marked
abbrev pub marked : List Bool → ℕ
marked [] = 0
marked (m ∷ ms) = cond m (suc (marked ms)) (marked ms)

-- in how many of the places that are not marked two rows differ
abbrev pub differing_unmarked : List Bool → List ℕ → List ℕ → ℕ
differing_unmarked [] xs ys = 0
differing_unmarked (m ∷ ms) [] ys = 0
differing_unmarked (m ∷ ms) (x ∷ xs) [] = 0
differing_unmarked (m ∷ ms) (x ∷ xs) (y ∷ ys) = cond m (differing_unmarked ms xs ys) (cond (x == y) (differing_unmarked ms xs ys) (suc (differing_unmarked ms xs ys)))

-- c is a code row with p parity bytes, of bytes and as long as the row: with f marked places, and e others in which it differs, 2 e + f ≤ p
pub record NearMarked (p : ℕ) (marks : List Bool) (row c : List ℕ) : Type 0 where
  pub long : length c ≡ length row
  pub byte : Bytes c
  pub code : CodeRow p c
  pub near : 2 * differing_unmarked marks row c + marked marks ≤ p

-- for every number of parity bytes p and rows of at most n bytes: code rows that differ in at most p places are equal, and at most one is near a row, with marks and without
pub record NearLaws (n : ℕ) : Type 0 where
  pub code_rows_equal : CodeRowsEqual n
  pub one_near : (p : ℕ) (row a b : List ℕ) → length row ≤ n → Near p row a → Near p row b → a ≡ b
  pub one_near_marked : (p : ℕ) (marks : List Bool) (row a b : List ℕ) → length row ≤ n → length marks ≡ length row → NearMarked p marks row a → NearMarked p marks row b → a ≡ b
