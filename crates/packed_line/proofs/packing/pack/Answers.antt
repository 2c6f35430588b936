use Rattle.std.proofs.Common.{pos, rules, arith}
use Rattle.packed_line.proofs.Arrays.{level_turns}
use Rattle.packed_line.proofs.Packs.{pack_is}
use Rattle.packed_line.proofs.packing.pack.Goals as goal

pub map-requires : goal.map-requires
map-requires c = (omega arith, (omega arith, (omega arith, level_turns _ _ c.args.symbols.now _ (λ q x l. search rules) c.requires)))

pub returns-clause-holds : goal.returns-clause-holds
returns-clause-holds c = pack_is c.args.symbols.now c.map.result c.told-symbols c.requires (λ k h. let m = c.map.ensures.items.at k (pos 0) 0 h in search rules)
