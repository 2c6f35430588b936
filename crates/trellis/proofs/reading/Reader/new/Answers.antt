use Rattle.std.proofs.Common.{◌≡◌, replicate, refl, ap, ◌∙◌, rules}
use lib.ListN.{get_or-replicate}
use Rattle.trellis.specs.declared.reading.Memory.{Memory}
use Rattle.trellis.specs.Reader.{new_memory, memory_before}
use Rattle.trellis.proofs.reading.Reader.new.Goals as goal

pub returns : goal.returns
unfolding memory_before
returns c =
    let m : c.default.result ≡ new_memory = search rules in
    record {
      memories = ap (λ (x : Memory). replicate 12 x) m;
      undoubted = refl;
      history = λ levels. record { memories_are = λ e l. get_or-replicate 12 e c.default.result new_memory l ∙ m; undoubted_is = refl };
    }
