use Rattle.std.proofs.Common.{◌≡◌, ◌+◌, ◌*◌, false, sym, ap, ◌∙◌, arith}
use Rattle.fst_bytes.specs.Reading.{has_best, number_count}
use Rattle.fst_binary.proofs.Numbered.{numbered_arcs}
use Rattle.fst_binary.proofs.encoding.arcs_length.Goals as goal

pub returns-else-may_be_best-clause-value : goal.returns-else-may_be_best-clause-value
returns-else-may_be_best-clause-value g c =
    let kind = g.W.Weight.KIND in
    let none : has_best kind ≡ false = ap has_best (sym c.KIND.ensures) ∙ (sym c.may_be_best.ensures ∙ c.if-may_be_best.false) in
    let numbers : number_count c.KIND-else-may_be_best.result ≡ number_count kind = ap number_count c.KIND-else-may_be_best.ensures in
    let own : c.numbered_arc_length.result ≡ 13 + 8 * number_count kind = omega (arith, numbers, c.numbered_arc_length.ensures.value) in
    sym (numbered_arcs g.W.Weight.value kind c.numbered_arc_length.result c.args.arcs.now own none c.arcs_have_fields.ensures c.requires.weights)
