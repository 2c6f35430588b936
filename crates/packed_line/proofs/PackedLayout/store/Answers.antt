use Rattle.std.proofs.Common.{◌≡◌, ◌∙◌, [], length, get_or, ap, rules, arith}
use Rattle.std.specs.List.{flat_map}
use Rattle.packed_line.specs.Packing.{unpacked}
use Rattle.packed_line.proofs.Arrays.{index_turns}
use Rattle.tables.proofs.Arrays.{each_of}
use Rattle.packed_line.proofs.Groups.{group_levels, groups_hold, groups_join}
use Rattle.packed_line.proofs.PackedLayout.store.Goals as goal

pub from_fn-bytes-requires : goal.from_fn-bytes-requires
from_fn-bytes-requires c =
    let n = c.told-segment in
    let m = c.as_chunks.ensures.front_len in
    (omega arith, index_turns _ _ 104 _ (λ i q h. search rules) (λ i h. (omega arith, rw c.as_chunks.ensures.front (group_levels 8 _ c.args.segment.now i c.requires.levels))))

pub returns : goal.returns
returns c =
    let gs = c.as_chunks.result.0.now in
    let n = c.told-segment in
    let m = c.as_chunks.ensures.front_len in
    let l : length c.from_fn-bytes.result ≡ 104 = c.from_fn-bytes.ensures.items.long in
    let e = each_of _ (λ k y. (length y ≡ 3) × (unpacked y ≡ get_or gs k [])) _ (λ k y q h. search rules) c.from_fn-bytes.result 104 c.from_fn-bytes.ensures.items in
    ap unpacked (c.copy_from_slice.ensures.after ∙ c.as_flattened.ensures.value) ∙
    groups_hold c.from_fn-bytes.result gs (omega arith) (λ k h. (e k [] (omega arith)).0) (λ k h. (e k [] (omega arith)).1) ∙
    ap (flat_map (λ x. x)) c.as_chunks.ensures.front ∙ groups_join 8 _ c.args.segment.now (omega arith)
