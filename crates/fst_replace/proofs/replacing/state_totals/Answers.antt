use Rattle.std.proofs.Common.{◌∙◌}
use Rattle.fst_machine.specs.Machine.{most_states}
use Rattle.fst_replace.specs.Totals.{AreCounts}
use Rattle.fst_replace.proofs.Totalling.{counted, total_states}
use Rattle.fst_replace.proofs.replacing.state_totals.Goals as goal

pub returns-clause-totals : goal.returns-clause-totals
returns-clause-totals g c =
    let total = total_states g.W.Weight.value c.args.rules.now c.args.calls.now c.requires.calls c.requires.closed c.args.order.now c.requires.order.ordered c.requires.order.listed in
    counted g.W.Weight.value c.args.rules.now c.args.calls.now c.requires.calls c.requires.closed c.args.order.now c.requires.order.ordered c.requires.order.listed most_states c.totals_of.result (λ count totals. AreCounts c.args.order.now count most_states totals.items) (c.as_slice.ensures.value ∙ c.in_ok-own.ensures) (c.as_slice-2.ensures.value ∙ c.in_ok-none.ensures) total c.requires.order.root c.requires.order.reached c.totals_of.ensures.totals
