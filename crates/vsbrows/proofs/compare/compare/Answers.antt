use Rattle.std.proofs.Common.{◌≡◌, ◌∙◌, arith}
use Rattle.vsbrows.specs.Compared.{agreeing, compared}
use Rattle.vsbrows.proofs.Counting.{counted}
use Rattle.vsbrows.proofs.compare.compare.Goals as goal

pub returns : goal.returns
returns c =
    let packets = c.args.packets.now in
    let rows = c.args.rows.now in
    let n : c.min-count.result ≡ compared packets rows = omega arith in
    let e : c.count_equal-equal.result ≡ agreeing packets rows (compared packets rows) =
    c.count_equal-equal.ensures.value ∙ counted packets rows _ _ c.as_chunks.ensures.front c.as_chunks-2.ensures.front in
    record {
      packets_whole = c.as_chunks.ensures.front_len;
      rows_whole = c.as_chunks-2.ensures.front_len;
      equal = e;
      different = omega arith;
      packet_rest = c.as_chunks.ensures.back_len;
      row_rest = c.as_chunks-2.ensures.back_len;
    }
