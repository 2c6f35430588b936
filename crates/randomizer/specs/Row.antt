-- The row of a packet: its bytes after the first, randomized, and their 20 parity bytes.
use Rattle.std.specs.Prelude.{◌≡◌, ℕ, cond, List, length, take, drop, Ok, Err, Result, ◌==◌}
use Rattle.refusal.specs.declared.Refusal.{Refusal}
use Rattle.refusal.specs.declared.Refusal.TheVariants.{WrongLength}
use Rattle.rows.specs.Parity.{coded}
use Rattle.randomizer.specs.Packets.{randomized}

-- the row of the packet at a place
abbrev pub row_of : ℕ → List ℕ → List ℕ
row_of place packet = coded 20 (randomized place (drop 1 packet))

-- the packet's bytes after the first, from the row at its place
abbrev pub bytes_of : ℕ → List ℕ → List ℕ
bytes_of place row = randomized place (take 187 row)

-- what `code_packet` answers to a packet of so many bytes and a row memory of so many
abbrev pub code_packet_answer : ℕ → ℕ → Result (Unit {0}) Refusal
code_packet_answer packet row = cond (packet == 188) (cond (row == 207) (Ok tt) (Err WrongLength)) (Err WrongLength)

-- what `packet_bytes` answers to a row of so many bytes and a memory of so many
abbrev pub packet_bytes_answer : ℕ → ℕ → Result (Unit {0}) Refusal
packet_bytes_answer row bytes = cond (row == 207) (cond (bytes == 187) (Ok tt) (Err WrongLength)) (Err WrongLength)

-- the row of a packet gives the packet's bytes after the first back
abbrev pub PacketReturns : Type 0
PacketReturns = (place : ℕ) (packet : List ℕ) → length packet ≡ 188 → bytes_of place (row_of place packet) ≡ drop 1 packet
