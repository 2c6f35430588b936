-- A ring of b branches that take elements in turn. Branch j delays by L j of its own turns, which is b * L j elements, and keeps what waits in L j cells from S j on.
use Rattle.std.specs.Prelude.{◌≡◌, ℕ, ◌+◌, ◌-◌, ◌*◌, ◌/◌, ◌%◌, ◌<◌, ◌≤◌, cond, ◌≢◌, ◌⊎◌, List, [], ◌∷◌, ◌++◌, length, nat_lt, Some, None, Option, slice_index, slice_index_or, slice_set}

-- Output number i of the inputs h: the input that came b * L (i mod b) before it, and z where there was none.
unfoldable pub delayed : {X : Type 0} → X → ℕ → (ℕ → ℕ) → List X → ℕ → X
delayed z b L h i = cond (nat_lt i (b * L (i % b))) z (slice_index_or h (i - b * L (i % b)) z)

-- Output number i after a plain delay of n elements.
abbrev pub plain_delayed : {X : Type 0} → X → ℕ → List X → ℕ → X
plain_delayed z n h i = delayed z 1 (λ _. n) h i

-- The cell in which output number i waits.
unfoldable pub cell : ℕ → (ℕ → ℕ) → (ℕ → ℕ) → ℕ → ℕ
cell b S L i = S (i % b) + i / b % L (i % b)

-- After the inputs h it is this branch's turn, each branch's next slot is known, and the cells hold every output that h settles and that has not left.
pub record Ring {X : Type 0} (z : X) (h : List X) (b : ℕ) (S L : ℕ → ℕ) (branch : ℕ) (slots : List ℕ) (cells : List X) : Type 0 where
  pub branch_is : branch ≡ length h % b
  pub slot_is : (i : ℕ) → length h ≤ i → i < length h + b → 0 < L (i % b) → slice_index slots (i % b) ≡ i / b % L (i % b)
  pub held : (i : ℕ) → length h ≤ i → i < length h + b * L (i % b) → slice_index_or cells (cell b S L i) z ≡ delayed z b L h i

-- How a ring's cells are divided: branch j has `size j` cells from `first j` on, and all branches together have `cells`.
pub record Layout : Type 0 where
  pub branches : ℕ
  pub first : ℕ → ℕ
  pub size : ℕ → ℕ
  pub cells : ℕ

-- The layout of a plain delay: one branch with all cells.
abbrev pub chain_layout : ℕ → Layout
chain_layout n = record { branches = 1; first = λ _. 0; size = λ _. n; cells = n }

-- The branches' cells lie apart.
unfoldable pub Apart : ℕ → (ℕ → ℕ) → (ℕ → ℕ) → Type 0
Apart b S L = (i j : ℕ) → i < b → j < b → i ≢ j → (S i + L i ≤ S j) ⊎ (S j + L j ≤ S i)

-- There is a branch, and the branches' cells lie apart within the ring's.
pub record Sound (l : Layout) : Type 0 where
  pub some : 0 < l.branches
  pub apart : Apart l.branches l.first l.size
  pub within : (j : ℕ) → j < l.branches → l.first j + l.size j ≤ l.cells

-- Where a ring stands: whose turn it is, and the slot of each branch.
pub record Place : Type 0 where
  pub branch : ℕ
  pub slots : List ℕ

-- It is a branch's turn, and each branch that has cells is at one of its slots.
pub record Stands (l : Layout) (p : Place) : Type 0 where
  pub inside : p.branch < l.branches
  pub long : l.branches ≤ length p.slots
  pub fit : (j : ℕ) → j < l.branches → 0 < l.size j → slice_index p.slots j < l.size j

-- A turn: it falls on the cell of its branch's slot, and on none where the branch has no cells; the slot and the turn go on.
pub record Visited (l : Layout) (p : Place) (cell : Option ℕ) (p' : Place) : Type 0 where
  pub turn_goes_on : p'.branch ≡ (p.branch + 1) % l.branches
  pub at_once : l.size p.branch ≡ 0 → (cell ≡ None) × (p'.slots ≡ p.slots)
  pub in_slot : 0 < l.size p.branch → (cell ≡ Some (l.first p.branch + slice_index p.slots p.branch)) × (p'.slots ≡ slice_set p.slots p.branch ((slice_index p.slots p.branch + 1) % l.size p.branch))

-- After the inputs h a ring of this layout stands at this place.
abbrev pub Holds : {X : Type 0} → X → List X → Layout → Place → List X → Type 0
Holds z h l p cells = Ring z h l.branches l.first l.size p.branch p.slots cells

-- x has come into the ring, and r left for it.
pub record Took {X : Type 0} (l : Layout) (p : Place) (cells : List X) (x r : X) (p' : Place) (cells' : List X) : Type 0 where
  pub run : (z : X) (h : List X) → Holds z h l p cells → (r ≡ delayed z l.branches l.size (h ++ x ∷ []) (length h)) × Holds z (h ++ x ∷ []) l p' cells'

-- The elements xs have come into the ring, and ys left for them.
pub record Ran {X : Type 0} (l : Layout) (p : Place) (cells xs ys : List X) (p' : Place) (cells' : List X) : Type 0 where
  pub same_length : length ys ≡ length xs
  pub run : (z : X) (h : List X) → Holds z h l p cells
      → ((k : ℕ) → k < length xs → slice_index_or ys k z ≡ delayed z l.branches l.size (h ++ xs) (length h + k)) × Holds z (h ++ xs) l p' cells'
