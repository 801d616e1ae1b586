use Rattle.std.proofs.Common.{◌<◌, ℕ, List, sym, subst}
use Rattle.std.proofs.lemmas.Option.{MatchOption-at_some}
use Rattle.fst_machine.specs.Machine.{most_arcs, most_states}
use Rattle.fst_replace.specs.Rules.{valued_rules}
use Rattle.fst_replace.specs.Totals.{AreCounts, arcs_in, states_in}
use Rattle.fst_replace.proofs.Answering.{none_is}
use Rattle.fst_replace.proofs.Totalling.{order_free, table_is}
use Rattle.fst_replace.proofs.replacing.measure_order.Goals as goal

pub returns-in_default-clause-cause : goal.returns-in_default-clause-cause
returns-in_default-clause-cause g c =
    let f = states_in (valued_rules g.W.Weight.value c.args.rules.now) in
    (order_free g.W.Weight.value c.args.rules.now c.count-count.ensures.rules c.args.calls.now c.requires.calls c.args.order.now c.requires.order.ordered c.requires.order.listed c.requires.order.root, none_is (most_states < f 0) (λ totals. AreCounts c.args.order.now f most_states totals.items) c.in_ok-states.field-0 c.in_default.is c.in_ok-states.ensures.totals)

pub returns-in_default-2-clause-cause : goal.returns-in_default-2-clause-cause
returns-in_default-2-clause-cause g c =
    let f = states_in (valued_rules g.W.Weight.value c.args.rules.now) in
    let k = arcs_in (valued_rules g.W.Weight.value c.args.rules.now) in
    let states = MatchOption-at_some (most_states < f 0) (λ totals. AreCounts c.args.order.now f most_states totals.items) c.in-Some.states c.in-Some.is c.in_ok-states.ensures.totals in
    (order_free g.W.Weight.value c.args.rules.now c.count-count.ensures.rules c.args.calls.now c.requires.calls c.args.order.now c.requires.order.ordered c.requires.order.listed c.requires.order.root, (states 0 c.requires.order.root).1, none_is (most_arcs < k 0) (λ totals. AreCounts c.args.order.now k most_arcs totals.items) c.in_ok-arcs.field-0 c.in_default-2.is c.in_ok-arcs.ensures.totals)

pub returns-clause-fine : goal.returns-clause-fine
returns-clause-fine g c =
    let order = c.args.order.now in
    let f = states_in (valued_rules g.W.Weight.value c.args.rules.now) in
    let k = arcs_in (valued_rules g.W.Weight.value c.args.rules.now) in
    let states = MatchOption-at_some (most_states < f 0) (λ totals. AreCounts order f most_states totals.items) c.in-Some.states c.in-Some.is c.in_ok-states.ensures.totals in
    let arcs = MatchOption-at_some (most_arcs < k 0) (λ totals. AreCounts order k most_arcs totals.items) c.in-Some-2.arcs c.in-Some-2.is c.in_ok-arcs.ensures.totals in
    let right = subst (λ (zs : List ℕ). AreCounts order f most_states zs) (sym c.as_slice.ensures.value) states in (
      record { free = order_free g.W.Weight.value c.args.rules.now c.count-count.ensures.rules c.args.calls.now c.requires.calls c.args.order.now c.requires.order.ordered c.requires.order.listed c.requires.order.root; states = (states 0 c.requires.order.root).1; arcs = (arcs 0 c.requires.order.root).1 },
      table_is g.W.Weight.value c.args.rules.now c.count-count.ensures.rules c.args.calls.now c.requires.calls c.args.order.now c.requires.order.ordered c.requires.order.listed c.requires.order.root c.in_ok-shapes.shapes.items c.as_slice.result.now c.in_ok-shapes.ensures.size c.in_ok-shapes.ensures.shapes right (arcs 0 c.requires.order.root).1,
    )
