use Rattle.std.proofs.Common.{◌∷◌, [], ap, arith}
use Rattle.fst_bytes.specs.Reading.{number_count}
use Rattle.fst_bytes.proofs.Lengths.{length-numbers, longer, longer_by_signed, one_number}
use Rattle.fst_bytes.proofs.weight_field.append_numbers.Goals as goal

pub append_signed-requires : goal.append_signed-requires
append_signed-requires c =
    let tag = longer _ _ (1 ∷ []) c.append.ensures.items in
    omega (arith, c.requires, tag, c.append.ensures.room, one_number c.args.kind c.in-Tropical.is, length-numbers c.args.kind c.args.first c.args.second)

pub append_signed-requires-in-Lexicographic : goal.append_signed-requires-in-Lexicographic
append_signed-requires-in-Lexicographic c =
    let tag = longer _ _ (1 ∷ []) c.append.ensures.items in
    omega (arith, c.requires, tag, c.append.ensures.room, ap number_count c.in-Lexicographic.is, length-numbers c.args.kind c.args.first c.args.second)

pub append_signed-requires-in-Lexicographic-2 : goal.append_signed-requires-in-Lexicographic-2
append_signed-requires-in-Lexicographic-2 c =
    let tag = longer _ _ (1 ∷ []) c.append.ensures.items in
    let first = longer_by_signed _ _ _ c.append_signed-in-Lexicographic.ensures.items in
    omega (arith, c.requires, tag, first, c.append.ensures.room, c.append_signed-in-Lexicographic.ensures.room, ap number_count c.in-Lexicographic.is, length-numbers c.args.kind c.args.first c.args.second)
