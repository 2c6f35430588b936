use Rattle.std.proofs.Common.{◌≡◌, ◌∙◌, [], length, get_or, ap, sym, rules, arith}
use Rattle.std.specs.List.{flat_map}
use Rattle.packed_line.specs.Packing.{unpacked}
use Rattle.tables.proofs.Arrays.{each_of}
use Rattle.packed_line.proofs.Groups.{group_length, groups_hold, groups_join}
use Rattle.packed_line.proofs.PackedLayout.load.Goals as goal

pub returns : goal.returns
returns c =
    let gs = c.as_chunks.result.0.now in
    let m = c.as_chunks.ensures.front_len in
    let l : length c.from_fn-symbols.result ≡ 104 = c.from_fn-symbols.ensures.items.long in
    let e = each_of _ (λ k y. y ≡ unpacked (get_or gs k [])) _ (λ k y q h. search rules) c.from_fn-symbols.result 104 c.from_fn-symbols.ensures.items in
    c.copy_from_slice.ensures.after ∙ c.as_flattened.ensures.value ∙
    sym (groups_hold gs c.from_fn-symbols.result (omega arith) (λ k h. rw c.as_chunks.ensures.front (group_length 3 _ c.args.slot.now k (omega arith) (omega arith))) (λ k h. sym (e k [] (omega arith)))) ∙
    ap (λ ys. unpacked (flat_map (λ x. x) ys)) c.as_chunks.ensures.front ∙ ap unpacked (groups_join 3 _ c.args.slot.now (omega arith))
