use Rattle.std.proofs.Common.{length, ap, ◌∙◌, arith}
use Rattle.std.specs.Option.{option_map}
use Rattle.std.proofs.lemmas.List.{length-append}
use Rattle.fst_bytes.specs.Spelling.{long}
use Rattle.fst_bytes.proofs.Lengths.{length-long}
use Rattle.fst_binary.specs.Sides.{Sides, side_fields}
use Rattle.fst_binary.proofs.encoding.append_header.Goals as goal

pub append_side-requires : goal.append_side-requires
append_side-requires c =
    let own = ap (λ (s : Sides). length (side_fields s.isymbols)) c.tables.view_is in
    let n = length-append c.append_types.new.out.items (long 3) in
    omega (arith, own, ap length c.requires.empty, c.append_types.ensures.len, ap length c.append_long.ensures.items, n, length-long 3, c.append_counts.ensures.len, c.requires.room, c.append_types.ensures.room, c.append_long.ensures.room, c.append_counts.ensures.room)

pub append_side-requires-2 : goal.append_side-requires-2
append_side-requires-2 c =
    let own = ap (λ (s : Sides). length (side_fields s.isymbols)) c.tables.view_is in
    let other = ap (λ (s : Sides). length (side_fields s.osymbols)) c.tables.view_is in
    let n = length-append c.append_types.new.out.items (long 3) in
    let grown = ap length c.append_side.ensures.items ∙ length-append c.append_counts.new.out.items (side_fields (option_map (λ t. t.now) c.tables.inside.isymbols)) in
    omega (arith, own, other, ap length c.requires.empty, c.append_types.ensures.len, ap length c.append_long.ensures.items, n, length-long 3, c.append_counts.ensures.len, grown, c.requires.room, c.append_types.ensures.room, c.append_long.ensures.room, c.append_counts.ensures.room, c.append_side.ensures.room)
