-- Steps over the symbols of a lane, which one encoder has in a data segment.
use Rattle.std.specs.Prelude.{ℕ}

-- steps over a lane's symbols, from one number to another, join: `goes` says what they leave of a coder and a target
pub record StepLaws {S T C : Type 0} (goes : S → ℕ → ℕ → ℕ → ℕ → C → T → C → T → Type 0) : Type 0 where
  pub stays : (source : S) (first place g : ℕ) (coder : C) (target : T) → goes source first place g g coder target coder target
  pub joins : (source : S) (first place a b c : ℕ) (x y z : C) (i j k : T) → goes source first place a b x i y j → goes source first place b c y j z k → goes source first place a c x i z k
