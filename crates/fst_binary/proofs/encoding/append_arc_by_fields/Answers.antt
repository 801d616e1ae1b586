use Rattle.std.proofs.Common.{ℕ, length, ap, arith}
use Rattle.fst_machine.specs.Machine.{Arc, valued_arc}
use Rattle.fst_bytes.specs.Spelling.{weight_field, word}
use Rattle.fst_binary.proofs.Lengths.{length-arc_fields}
use Rattle.fst_bytes.proofs.Lengths.{length-word, longer}
use Rattle.fst_binary.proofs.encoding.append_arc_by_fields.Goals as goal

pub append_word-requires : goal.append_word-requires
append_word-requires g c = omega (arith, c.requires, length-arc_fields g.W.Weight.KIND (valued_arc g.W.Weight.value c.args.arc))

pub append_word-requires-2 : goal.append_word-requires-2
append_word-requires-2 g c =
    let first = longer _ _ (word c.arc.inside.ilabel) c.append_word.ensures.items in
    omega (arith, c.requires, first, length-word c.arc.inside.ilabel, c.append_word.ensures.room, length-arc_fields g.W.Weight.KIND (valued_arc g.W.Weight.value c.args.arc))

pub append_word-requires-3 : goal.append_word-requires-3
append_word-requires-3 g c =
    let first = longer _ _ (word c.arc.inside.ilabel) c.append_word.ensures.items in
    let second = longer _ _ (word c.arc.inside.olabel) c.append_word-2.ensures.items in
    let third = longer _ _ (weight_field g.W.Weight.KIND (g.W.Weight.value c.arc.inside.weight)) c.append_weight.ensures.items in
    let weight = ap (λ (a : Arc g.row.W.Denot ℕ). length (weight_field g.W.Weight.KIND (g.W.Weight.value a.weight))) c.arc.view_is in
    omega (arith, c.requires, weight, first, second, third, length-word c.arc.inside.ilabel, length-word c.arc.inside.olabel, c.append_word.ensures.room, c.append_word-2.ensures.room, c.append_weight.ensures.room, length-arc_fields g.W.Weight.KIND (valued_arc g.W.Weight.value c.args.arc))
