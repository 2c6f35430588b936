-- The number of each refusal.
use Rattle.std.specs.Prelude.{ℕ}
use Rattle.refusal.specs.declared.Refusal.{Refusal}
use Rattle.refusal.specs.declared.Refusal.TheVariants.{WrongLength, NoSyncByte, NoFrame, NumbersUsedUp, NotALevel, TooLittleRoom, TooFewWaiting, SyncTailNotZero}

-- the number by which a refusal is known
abbrev pub refusal_number : Refusal → ℕ
refusal_number WrongLength = 1
refusal_number NoSyncByte = 2
refusal_number NoFrame = 3
refusal_number (NumbersUsedUp next needed) = 6
refusal_number NotALevel = 7
refusal_number (TooLittleRoom needed found) = 8
refusal_number (TooFewWaiting needed found) = 9
refusal_number SyncTailNotZero = 11
