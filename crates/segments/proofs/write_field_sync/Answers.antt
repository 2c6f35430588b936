use Rattle.std.proofs.Common.{◌≡◌, ◌++◌, drop, ap, ◌∙◌, rules}
use Rattle.level.specs.Level.{all_levels}
use Rattle.segments.specs.Segment.{field_sync}
use Rattle.segments.proofs.Levels.{all_are_levels}
use Rattle.segments.proofs.write_field_sync.Goals as goal

pub returns-clause-levels : goal.returns-clause-levels
returns-clause-levels c =
    let e : c.copy_from_slice.new.self ++ c.keep_levels.new.symbols ≡ field_sync c.args.sync.now c.args.second (drop 820 c.args.last.now) = search rules in
    ap all_levels e ∙ all_are_levels c.args.sync.now c.args.second (drop 820 c.args.last.now)
