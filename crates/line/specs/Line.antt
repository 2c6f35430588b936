-- What a line answers: whether it refuses, and by what.
use Rattle.std.specs.Prelude.{ℕ, ◌^◌, min, cond, List, length, ℤ, Ok, Err, Result, ◌==◌}
use Rattle.level.specs.Level.{all_levels}
use Rattle.line.specs.declared.LineFault.{LineFault}
use Rattle.line.specs.declared.LineFault.TheVariants.{WrongLength, NotLevel, UsedUp, NoRoom, NothingWaits}
use Rattle.line.specs.declared.LineRefusal.{LineRefusal}
use Rattle.line.specs.Segment.{segment_length}
use Rattle.line.specs.State.{State}

-- refused by the line that is called
abbrev pub here : State → LineFault → LineRefusal
here s f = record { fault = f; next = s.number; depth = 0 }

-- refused by the line at the bottom
abbrev pub bottom : State → LineFault → LineRefusal
bottom s f = record { fault = f; next = s.number; depth = min s.layers 255 }

-- the answer to a put of f
abbrev pub put_answer : State → List ℤ → Result (Unit {0}) LineRefusal
put_answer s f =
    cond (length f == segment_length)
    (cond (all_levels f)
    (cond (s.number == 2 ^ 40) (Err (bottom s UsedUp))
    (cond (length s.waiting == s.room) (Err (bottom s NoRoom)) (Ok tt)))
    (Err (here s NotLevel)))
    (Err (here s WrongLength))

-- the answer to a take into n symbols
abbrev pub take_answer : State → ℕ → Result (Unit {0}) LineRefusal
take_answer s n =
    cond (n == segment_length)
    (cond (length s.waiting == 0) (Err (bottom s NothingWaits)) (Ok tt))
    (Err (here s WrongLength))
