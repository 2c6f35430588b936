use Rattle.std.proofs.Common.{◌≡◌, get_or, pos, ap, ◌∙◌, arith, w8, SFits, to_z, of_z, rules}
use Rattle.std.proofs.lemmas.Int.{to_z-of_z}
use Rattle.std.proofs.lemmas.List.Edits.{map_over_more}
use Rattle.std.proofs.lemmas.List.{get_or_default}
use Rattle.segments.specs.Segment.{copied_level}
use Rattle.segments.proofs.keep_levels.Goals as goal

pub loop-symbol-preserved : goal.loop-symbol-preserved
loop-symbol-preserved c =
    let f : SFits w8 c.copied_level.result = search rules in
    let g : SFits w8 (get_or c.loop-symbol.symbols c.loop-symbol.symbol-index (pos 0)) = search rules in
    let e : to_z w8 (of_z w8 c.copied_level.result) ≡ copied_level (get_or c.loop-symbol.symbols c.loop-symbol.symbol-index (pos 0)) =
    to_z-of_z w8 c.copied_level.result f ∙ (c.copied_level.ensures ∙ ap copied_level (to_z-of_z w8 (get_or c.loop-symbol.symbols c.loop-symbol.symbol-index (pos 0)) g)) in
    simp e
    (map_over_more copied_level c.args.symbols.now c.loop-symbol.symbols c.loop-symbol.symbol-index (get_or c.loop-symbol.symbols c.loop-symbol.symbol-index (pos 0)) (omega arith) c.loop-symbol.invariant
    (get_or_default c.loop-symbol.symbols c.loop-symbol.symbol-index (pos 0) _ (omega arith)))
