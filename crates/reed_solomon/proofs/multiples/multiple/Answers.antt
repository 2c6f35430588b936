use Rattle.std.proofs.Common.{arith}
use Rattle.galois.specs.Field.{gf_power}
use Rattle.reed_solomon.specs.Held.{held}
use Rattle.reed_solomon.proofs.Computed.{highs, lows, multiple_at}
use Rattle.rows.specs.Parity.{generator, times_factor, division_step, row_sum}
use Rattle.reed_solomon.proofs.multiples.multiple.Goals as goal

pub returns : goal.returns
unfolding held highs lows generator times_factor gf_power division_step row_sum
returns c = multiple_at c.args.ahead c.args.f _ c.requires (omega arith)
