use Rattle.std.proofs.Common.{refl, arith}
use Rattle.trellis.proofs.ReadLane.{read_more}
use Rattle.trellis.proofs.reading.MemoryCoderSymbolsArrayMarked828.symbol.Goals as goal

pub returns : goal.returns
returns c =
    λ start given h.
    read_more c.args.symbols.now.levels.now c.args.lane.first c.args.lane.place c.args.symbols.now.undoubted start given c.args.g c.args.quad.now c.args.self.now _
    (omega arith) (omega arith) (omega arith) (omega arith) c.byte-u.result c.byte-u.ensures.at _ refl c.bits-bits.result c.bits-bits.ensures _ refl c.read_pair.result c.read_pair.new.self c.read_pair.ensures (λ ne. refl) h
