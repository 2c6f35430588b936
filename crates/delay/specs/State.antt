-- What a delay memory has taken in, and what its calls do.
use Rattle.std.specs.Prelude.{◌≡◌, ℕ, ◌+◌, ◌<◌, ◌≤◌, cond, List, [], ◌∷◌, ◌++◌, length, replicate, Ok, Err, Result, ◌==◌, slice_index_or}
use Rattle.refusal.specs.declared.Refusal.{Refusal}
use Rattle.refusal.specs.declared.Refusal.TheVariants.{WrongLength}
use Rattle.delay.specs.Ring.{delayed, plain_delayed, Ring}
use Rattle.delay.specs.Branches.{sizes, firsts}
use Rattle.delay.specs.declared.branches.Direction.{Direction}
use Rattle.delay.specs.declared.memory.Delay.{Delay}
use Rattle.delay.specs.declared.plain.PlainDelay.{PlainDelay}

-- Refused where the cells are not as many as are needed.
abbrev pub length_answer : ℕ → ℕ → Result (Unit {0}) Refusal
length_answer cells needed = cond (cells == needed) (Ok tt) (Err WrongLength)

-- The memory has taken the elements h in, after a start with z in every cell.
abbrev pub Came : {X : Type 0} → X → List X → Delay → List X → Type 0
Came z h d cells = Ring z h d.shape.branches (firsts d.shape) (sizes d.shape) d.turn.branch d.slots cells

-- The element that leaves as number i, of the elements h.
abbrev pub leaving : {X : Type 0} → X → Delay → List X → ℕ → X
leaving z d h i = delayed z d.shape.branches (sizes d.shape) h i

-- No element has come yet: it is the first branch's turn, and each branch is at its first slot.
pub record Fresh (d : Delay) : Type 0 where
  pub branch : d.turn.branch ≡ 0
  pub slots : d.slots ≡ replicate 255 0

-- Sizes that a memory can have.
abbrev pub Sized : ℕ → ℕ → Type 0
Sized branches step = (0 < branches) × (branches ≤ 255) × (0 < step) × (step ≤ 255)

-- A new memory for so many branches.
pub record Made (branches step : ℕ) (direction : Direction) (d : Delay) : Type 0 where
  pub branches_is : d.shape.branches ≡ branches
  pub step_is : d.shape.step ≡ step
  pub direction_is : d.shape.direction ≡ direction
  pub fresh : Fresh d

-- The memory starts anew, with z in every cell.
pub record Cleared {X : Type 0} (z : X) (d : Delay) (cells : List X) (d' : Delay) (cells' : List X) : Type 0 where
  pub same_shape : d'.shape ≡ d.shape
  pub clear : cells' ≡ replicate (length cells) z
  pub fresh : Fresh d'
  pub came : Came z [] d' cells'

-- x has come in, and r left for it.
pub record Pushed {X : Type 0} (d : Delay) (cells : List X) (x r : X) (d' : Delay) (cells' : List X) : Type 0 where
  pub same_shape : d'.shape ≡ d.shape
  pub run : (z : X) (h : List X) → Came z h d cells → (r ≡ leaving z d (h ++ x ∷ []) (length h)) × Came z (h ++ x ∷ []) d' cells'

-- The elements xs have come in, and ys left for them.
pub record Passed {X : Type 0} (d : Delay) (cells xs ys : List X) (d' : Delay) (cells' : List X) : Type 0 where
  pub same_shape : d'.shape ≡ d.shape
  pub same_length : length ys ≡ length xs
  pub run : (z : X) (h : List X) → Came z h d cells
      → ((k : ℕ) → k < length xs → slice_index_or ys k z ≡ leaving z d (h ++ xs) (length h + k)) × Came z (h ++ xs) d' cells'

-- The plain delay has taken the elements h in, after a start with z in every cell.
abbrev pub PlainCame : {X : Type 0} → X → List X → PlainDelay → List X → Type 0
PlainCame z h d cells = Ring z h 1 (λ _. 0) (λ _. d.size) 0 (d.slot ∷ []) cells

-- The plain delay starts anew, with z in every cell.
pub record PlainCleared {X : Type 0} (z : X) (d : PlainDelay) (cells : List X) (d' : PlainDelay) (cells' : List X) : Type 0 where
  pub same_size : d'.size ≡ d.size
  pub clear : cells' ≡ replicate (length cells) z
  pub fresh : d'.slot ≡ 0
  pub came : PlainCame z [] d' cells'

-- x has come in, and r left for it.
pub record PlainPushed {X : Type 0} (d : PlainDelay) (cells : List X) (x r : X) (d' : PlainDelay) (cells' : List X) : Type 0 where
  pub same_size : d'.size ≡ d.size
  pub run : (z : X) (h : List X) → PlainCame z h d cells → (r ≡ plain_delayed z d.size (h ++ x ∷ []) (length h)) × PlainCame z (h ++ x ∷ []) d' cells'

-- The elements xs have come in, and ys left for them.
pub record PlainPassed {X : Type 0} (d : PlainDelay) (cells xs ys : List X) (d' : PlainDelay) (cells' : List X) : Type 0 where
  pub same_size : d'.size ≡ d.size
  pub same_length : length ys ≡ length xs
  pub run : (z : X) (h : List X) → PlainCame z h d cells
      → ((k : ℕ) → k < length xs → slice_index_or ys k z ≡ plain_delayed z d.size (h ++ xs) (length h + k)) × PlainCame z (h ++ xs) d' cells'
