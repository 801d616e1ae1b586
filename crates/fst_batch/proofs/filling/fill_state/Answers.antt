use Rattle.std.proofs.Common.{◌≡◌, ◌∷◌, ◌++◌, [], List, length, sym, ap, ◌∙◌, subst, take, arith}
use Rattle.std.proofs.lemmas.List.{take_all, take_more}
use Rattle.fst_machine.specs.Machine.{Arc, IsArc, Machine, changed, with_arc}
use Rattle.fst_batch.specs.Filling.{filled}
use Rattle.fst_batch.proofs.Filled.{changed_length, filled_none, filled_one, fine_on}
use Rattle.fst_batch.proofs.filling.fill_state.Goals as goal

pub add_arc-requires-clause-state : goal.add_arc-requires-clause-state
add_arc-requires-clause-state g c =
    let size : length c.loop-arc.fst.states ≡ length c.args.fst.now.states = ap (λ (m : Machine _). length m.states) c.loop-arc.invariant ∙ changed_length (filled c.args.last (take c.loop-arc.arc-index c.args.arcs.now)) c.args.fst.now.states c.args.state in
    let low = c.requires.state in
    omega (arith, size, low)

pub add_arc-requires-clause-next : goal.add_arc-requires-clause-next
add_arc-requires-clause-next g c =
    let value = g.W.Weight.wide_value in
    let size : length c.loop-arc.fst.states ≡ length c.args.fst.now.states = ap (λ (m : Machine _). length m.states) c.loop-arc.invariant ∙ changed_length (filled c.args.last (take c.loop-arc.arc-index c.args.arcs.now)) c.args.fst.now.states c.args.state in
    let arc = subst (IsArc value (length c.args.fst.now.states)) (sym c.arc-item.is) (c.requires.arcs c.loop-arc.arc-index c.arc-item.result (omega arith)) in
    let low = arc.next in
    omega (arith, size, low)

pub loop-arc-init : goal.loop-arc-init
loop-arc-init g c = c.set_final.ensures ∙ (λ i. record { start = c.args.fst.now.start; states = filled_none c.args.last c.args.fst.now.states c.args.state i })

pub loop-arc-preserved : goal.loop-arc-preserved
loop-arc-preserved g c =
    let old = c.args.fst.now in
    let arcs = c.args.arcs.now in
    let k = c.loop-arc.arc-index in
    let so_far = take k arcs in
    let last = c.args.last in
    let put = fine_on c.add_arc.result c.is_err.result c.is_err.ensures.value c.if-is_err.false c.add_arc.ensures.ok in
    let one = filled_one last so_far c.arc-item.result old.states c.args.state in
    let more = sym (take_more arcs k c.arc-item.result (omega arith)) in
    put
    ∙ (ap (λ (m : Machine _). record { start = m.start; states = changed (with_arc c.arc-item.result) m.states c.args.state }) c.loop-arc.invariant
    ∙ ((λ i. record { start = old.start; states = one i })
    ∙ ap (λ (xs : List _). record { start = old.start; states = changed (filled last xs) old.states c.args.state }) (ap (λ (a : Arc _ _). so_far ++ a ∷ []) c.arc-item.is ∙ more)))

pub returns : goal.returns
returns g c =
    let old = c.args.fst.now in
    c.loop-arc.invariant ∙ ap (λ (xs : List _). record { start = old.start; states = changed (filled c.args.last xs) old.states c.args.state }) (take_all c.loop-arc.arc-index c.args.arcs.now (omega arith))
