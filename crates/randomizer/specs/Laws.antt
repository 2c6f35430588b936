-- Laws of the randomizer.
use Rattle.std.specs.Prelude.{◌≡◌, ℕ, zero, suc, ◌+◌, ◌*◌, ◌%◌, ◌<◌, cond, List, length, ◌==◌, bit_xor, slice_index}
use Rattle.randomizer.specs.Stages.{stage, next, key}
use Rattle.randomizer.specs.Packets.{key_at, randomized}

-- the stage that stage j takes: the one before it, and stage 1 takes stage 16
abbrev pub source : ℕ → ℕ
source zero = 0
source (suc zero) = 16
source (suc (suc j)) = suc j

-- one for the stages that stage 16 inverts
abbrev pub inverted : ℕ → ℕ
inverted j = cond (j == 2) 1 (cond (j == 4) 1 (cond (j == 7) 1 (cond (j == 8) 1 (cond (j == 12) 1 (cond (j == 13) 1 (cond (j == 14) 1 0))))))

-- after a step each stage is the one that it takes, inverted where it is one of those and stage 16 was one
abbrev pub StepLaw : Type 0
StepLaw = (s j : ℕ) → 0 < j → j < 17 → stage (next s) j ≡ (stage s (source j) + inverted j * stage s 16) % 2

-- a field's sequence begins with these bytes
abbrev pub FirstBytes : Type 0
FirstBytes = (key 0 ≡ 0xc0) × (key 1 ≡ 0x6d) × (key 2 ≡ 0x3f) × (key 3 ≡ 0x99)

-- the sequence starts anew with each field
abbrev pub FieldLaw : Type 0
FieldLaw = (place j : ℕ) → key_at (place + 312) j ≡ key_at place j

-- each byte is combined with the one of its place, and their number is kept
abbrev pub ByteLaw : Type 0
ByteLaw =
    (place : ℕ) (bytes : List ℕ)
    → (length (randomized place bytes) ≡ length bytes) × ((j : ℕ) → j < length bytes → slice_index (randomized place bytes) j ≡ bit_xor (slice_index bytes j) (key_at place j))

-- combining twice at one place gives the bytes back
abbrev pub RoundTrip : Type 0
RoundTrip = (place : ℕ) (bytes : List ℕ) → randomized place (randomized place bytes) ≡ bytes
