-- What comparing a stream of packets with recorded rows finds.
use Rattle.std.specs.Prelude.{◌≡◌, ℕ, zero, suc, ◌+◌, ◌-◌, ◌*◌, ◌/◌, ◌%◌, min, Bool, cond, List, length, take, drop}
use Rattle.randomizer.specs.Row.{row_of}
use Rattle.std.specs.Str.{bytes_eq}
use Rattle.vsbrows.specs.declared.compare.Comparison.{Comparison}

-- part number t of a list cut into parts of n
abbrev pub part : ℕ → List ℕ → ℕ → List ℕ
part n xs t = take n (drop (n * t) xs)

-- whether packet t of the stream is coded to recorded row t
abbrev pub agrees : List ℕ → List ℕ → ℕ → Bool
agrees packets rows t = bytes_eq (row_of t (part 188 packets t)) (part 207 rows t)

-- whether a packet with its number is coded to the row beside it
abbrev pub coded_to : ℕ × (List ℕ × List ℕ) → Bool
coded_to x = bytes_eq (row_of x.0 x.1.0) x.1.1

-- how many of the first packets are coded to their recorded rows
unfoldable pub agreeing : List ℕ → List ℕ → ℕ → ℕ
agreeing packets rows zero = 0
agreeing packets rows (suc t) = cond (agrees packets rows t) 1 0 + agreeing packets rows t

-- how many packets have a recorded row
abbrev pub compared : List ℕ → List ℕ → ℕ
compared packets rows = min (length packets / 188) (length rows / 207)

-- the whole finding
pub record Compares (packets rows : List ℕ) (found : Comparison) : Type 0 where
  pub packets_whole : found.packets ≡ length packets / 188
  pub rows_whole : found.rows ≡ length rows / 207
  pub equal : found.tally.equal ≡ agreeing packets rows (compared packets rows)
  pub different : found.tally.different ≡ compared packets rows - agreeing packets rows (compared packets rows)
  pub packet_rest : found.short_packet ≡ length packets % 188
  pub row_rest : found.short_row ≡ length rows % 207
