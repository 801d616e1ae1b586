use Rattle.std.proofs.Common.{◌≡◌, length, map, ◌++◌, ◌∷◌, [], get_or, sym, ap, ◌∙◌, subst, arith}
use Rattle.std.specs.Bool.{Decides}
use Rattle.std.proofs.lemmas.List.{length-map}
use Rattle.fst_semiring.specs.Cost.{Cost}
use Rattle.fst_machine.specs.Machine.{State, valued_arc, valued_state}
use Rattle.fst_machine.specs.Graph.{no_state}
use Rattle.fst_machine.specs.Narrowing.{IsInRange}
use Rattle.fst_machine.proofs.OneMachine.{one_state}
use Rattle.fst_distance.proofs.totalling.put_state.Given as given
use Rattle.fst_distance.proofs.totalling.put_state.Goals as goal

pub narrow_state-requires : goal.narrow_state-requires
narrow_state-requires g c =
    let w = g.W.Weight in
    let same : length c.deref.result.now ≡ length (get_or c.args.pushed.now.states c.args.state no_state).arcs =
    sym (length-map c.deref.result.now (valued_arc w.wide_value)) ∙ ap length (ap (map (valued_arc w.wide_value)) c.deref.ensures.value ∙ c.in_ok-put_arcs.ensures.arcs) in
    omega (arith, same, c.requires.room)

made : (g : given.Over) (c : goal.In_ok-fits g) → valued_state g.W.Weight.wide_value (record { final = c.final_weight-last.result; arcs = c.deref.result.now }) ≡ get_or c.args.pushed.now.states c.args.state no_state
made g c =
    let w = g.W.Weight in
    one_state (valued_state w.wide_value (record { final = c.final_weight-last.result; arcs = c.deref.result.now })) (get_or c.args.pushed.now.states c.args.state no_state) c.final_weight-last.ensures.value
    (ap (map (valued_arc w.wide_value)) c.deref.ensures.value ∙ c.in_ok-put_arcs.ensures.arcs)

pub returns-clause-fits : goal.returns-clause-fits
returns-clause-fits g c = subst (λ (s : State Cost). Decides c.in_ok-fits.fits (IsInRange s)) (made g c) c.in_ok-fits.ensures.fits

pub returns-clause-list : goal.returns-clause-list
returns-clause-list g c = λ e. c.in_ok-fits.ensures.list e ∙ ap (λ (s : State Cost). map (valued_state g.W.Weight.value) c.args.list.now ++ s ∷ []) (made g c)
