use Rattle.std.proofs.Common.{◌≡◌, ◌+◌, ◌<◌, length, set, refl, sym, ◌∙◌, arith}
use Rattle.std.proofs.lemmas.List.{get_or-set_same, length-set, set-set, set-get_or}
use Rattle.trellis.specs.Reader.{blank}
use Rattle.trellis.proofs.Numbers.{byte_kept}
use Rattle.trellis.proofs.ReadLane.{read_more}
use Rattle.trellis.proofs.reading.MemoryCoderSymbolsArrayMarked828.byte.Goals as goal

pub loop-pair-init : goal.loop-pair-init
loop-pair-init c = λ start given h. let e : c.args.g + 0 ≡ c.args.g = omega arith in rw e (rw (set-get_or c.args.quad.now c.byte-u.result blank) h)

pub loop-pair-preserved : goal.loop-pair-preserved
loop-pair-preserved c =
    λ start given h.
    let s = c.args.symbols.now in
    let g = c.args.g + c.loop-pair.pair in
    let first = c.args.lane.first in
    let u = c.byte-u.result in
    let quad = set c.args.quad.now u c.loop-pair.part in
    let n : length quad ≡ 828 = simp length-set (omega arith) in
    let l : u < length c.args.quad.now = omega arith in
    let e : c.args.g + (c.loop-pair.pair + 1) ≡ c.args.g + c.loop-pair.pair + 1 = omega arith in
    rw e
    (simp set-set at (read_more s.levels.now first c.args.lane.place s.undoubted start given g quad c.loop-pair.self c.loop-pair.part
    (omega arith) (omega arith) (omega arith) n u (c.byte-u.ensures.at ∙ byte_kept first c.args.lane.place (first + c.args.g) (first + g) (omega arith)) c.loop-pair.pair (omega arith) c.bits-bits.result c.bits-bits.ensures _ refl c.read_pair-part.result c.read_pair-part.new.self c.read_pair-part.ensures
    (λ ne. sym (get_or-set_same c.args.quad.now u c.loop-pair.part blank l)) (c.loop-pair.invariant start given h)))

pub returns : goal.returns
returns c = λ start given h. let e : c.loop-pair.pair ≡ 4 = omega arith in rw e at (c.loop-pair.invariant start given h)
