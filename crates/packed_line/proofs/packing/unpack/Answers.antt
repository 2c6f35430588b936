use Rattle.std.proofs.Common.{◌≡◌, ◌-◌, ◌*◌, ◌/◌, ◌%◌, ◌^◌, ◌<◌, get_or, rules}
use Rattle.packed_line.specs.Packing.{level_from, three_bytes}
use Rattle.tables.proofs.Arrays.{each_of}
use Rattle.packed_line.proofs.Packs.{unpack_is}
use Rattle.packed_line.proofs.packing.unpack.Goals as goal

pub returns : goal.returns
returns c =
    let xs = c.args.bytes.now in
    let n = three_bytes (get_or xs 0 0) (get_or xs 1 0) (get_or xs 2 0) in
    let e = each_of _ (λ k y. k < 8 → y ≡ level_from (n / 2 ^ (21 - 3 * k) % 8)) _ (λ k y q h. search rules) c.from_fn.result 8 c.from_fn.ensures.items in
    unpack_is c.from_fn.result xs c.from_fn.ensures.items.long (search rules) (λ k d h. e k d h h)
