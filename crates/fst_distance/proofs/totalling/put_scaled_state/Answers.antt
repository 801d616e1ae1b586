use Rattle.std.proofs.Common.{◌≡◌, ℕ, length, map, ◌++◌, ◌∷◌, [], get_or, sym, ap, ◌∙◌, subst, arith}
use Rattle.std.specs.Bool.{Decides}
use Rattle.std.proofs.lemmas.List.{length-map}
use Rattle.fst_semiring.specs.Cost.{Cost}
use Rattle.fst_semiring.specs.Semiring.{times}
use Rattle.fst_machine.specs.Machine.{State, valued_arc, valued_state}
use Rattle.fst_machine.specs.Graph.{graph_of, no_state}
use Rattle.fst_machine.specs.Narrowing.{IsInRange}
use Rattle.fst_machine.proofs.OneMachine.{one_state}
use Rattle.fst_distance.specs.Totals.{scaled, scaled_arc}
use Rattle.fst_distance.proofs.Lists.{map_through}
use Rattle.fst_distance.proofs.totalling.put_scaled_state.Given as given
use Rattle.fst_distance.proofs.totalling.put_scaled_state.Goals as goal

pub narrow_state-requires : goal.narrow_state-requires
narrow_state-requires g c =
    let w = g.W.Weight in
    let f = scaled_arc {N = ℕ} w.KIND (w.wide_value c.args.factor) in
    let arcs = map_through (valued_arc w.wide_value) f _ _ _ c.put_arcs.new.out.items ((graph_of c.args.pushed.now).arcs c.args.state) c.deref-2.ensures.value c.in_ok-put_scaled.ensures c.deref.ensures.value c.in_ok-put_arcs.ensures.arcs in
    let same : length c.deref-2.result.now ≡ length (get_or c.args.pushed.now.states c.args.state no_state).arcs =
    sym (length-map c.deref-2.result.now (valued_arc w.wide_value)) ∙ (ap length arcs ∙ length-map ((graph_of c.args.pushed.now).arcs c.args.state) f) in
    omega (arith, same, c.requires.room)

made : (g : given.Over) (c : goal.In_ok-fits g) → valued_state g.W.Weight.wide_value (record { final = c.wide_times-last.result; arcs = c.deref-2.result.now }) ≡ scaled g.W.Weight.KIND (g.W.Weight.wide_value c.args.factor) (get_or c.args.pushed.now.states c.args.state no_state)
made g c =
    let w = g.W.Weight in
    let f = scaled_arc {N = ℕ} w.KIND (w.wide_value c.args.factor) in
    let arcs = map_through (valued_arc w.wide_value) f _ _ _ c.put_arcs.new.out.items ((graph_of c.args.pushed.now).arcs c.args.state) c.deref-2.ensures.value c.in_ok-put_scaled.ensures c.deref.ensures.value c.in_ok-put_arcs.ensures.arcs in
    one_state (valued_state w.wide_value (record { final = c.wide_times-last.result; arcs = c.deref-2.result.now })) (scaled w.KIND (w.wide_value c.args.factor) (get_or c.args.pushed.now.states c.args.state no_state))
    (c.wide_times-last.ensures.product ∙ ap (times w.KIND (w.wide_value c.args.factor)) c.final_weight.ensures.value) arcs

pub returns-clause-fits : goal.returns-clause-fits
returns-clause-fits g c = subst (λ (s : State Cost). Decides c.in_ok-fits.fits (IsInRange s)) (made g c) c.in_ok-fits.ensures.fits

pub returns-clause-list : goal.returns-clause-list
returns-clause-list g c = λ e. c.in_ok-fits.ensures.list e ∙ ap (λ (s : State Cost). map (valued_state g.W.Weight.value) c.args.list.now ++ s ∷ []) (made g c)
