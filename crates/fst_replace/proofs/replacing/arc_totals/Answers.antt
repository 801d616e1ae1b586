use Rattle.std.proofs.Common.{◌∙◌}
use Rattle.fst_machine.specs.Machine.{most_arcs}
use Rattle.fst_replace.specs.Totals.{AreCounts}
use Rattle.fst_replace.proofs.Totalling.{counted, total_arcs}
use Rattle.fst_replace.proofs.Valuing.{total_valued}
use Rattle.fst_replace.proofs.replacing.arc_totals.Goals as goal

pub returns-clause-totals : goal.returns-clause-totals
returns-clause-totals g c =
    let total = total_arcs g.W.Weight.value c.args.rules.now c.args.calls.now c.requires.calls c.requires.closed c.args.order.now c.requires.order.ordered c.requires.order.listed c.in_ok-plain.plain.items c.in_ok-plain.ensures.counts (total_valued g.W.Weight.value c.args.rules.now) in
    counted g.W.Weight.value c.args.rules.now c.args.calls.now c.requires.calls c.requires.closed c.args.order.now c.requires.order.ordered c.requires.order.listed most_arcs c.totals_of.result (λ count totals. AreCounts c.args.order.now count most_arcs totals.items) c.as_slice.ensures.value (c.as_slice-2.ensures.value ∙ c.in_ok-brought.ensures) total c.requires.order.root c.requires.order.reached c.totals_of.ensures.totals
