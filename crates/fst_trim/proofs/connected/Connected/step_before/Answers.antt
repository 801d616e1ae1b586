use Rattle.std.proofs.Common.{ℕ, List, get_or, slice_get, sym, ap, ◌∙◌, subst}
use Rattle.fst_semiring.specs.Cost.{Cost}
use Rattle.fst_machine.specs.Machine.{Arc, most_arcs, valued}
use Rattle.fst_machine.specs.Graph.{graph_of}
use Rattle.fst_machine.specs.Connected.{IsKeptAt}
use Rattle.fst_trim.specs.KeptPaths.{IsConnectedOn}
use Rattle.fst_trim.specs.Handed.{machine_of}
use Rattle.fst_trim.proofs.Places.{few_arcs}
use Rattle.fst_trim.proofs.Sought.{arcs_are, kept_ascends, step_place, step_state, step_within}
use Rattle.fst_trim.proofs.connected.Connected.step_before.Goals as goal

pub arcs-requires : goal.arcs-requires
arcs-requires g c =
    let on = subst (λ (ks : List ℕ). IsConnectedOn (valued g.W.Weight.value c.args.a.now) (valued g.W.Weight.value (machine_of c.args.self.now.machine)) ks) (sym c.as_slice-kept.ensures.value) c.requires.connected in
    step_within g.W.Weight.value c.args.a.now (machine_of c.args.self.now.machine) c.as_slice-kept.result.now c.args.step.state c.args.step.place c.requires.arc.0 on c.requires.arc.1 c.states-states.ensures.machine

pub old_place-place-requires-clause-few : goal.old_place-place-requires-clause-few
old_place-place-requires-clause-few g c = few_arcs c.args.a.now.states (get_or c.as_slice-kept.result.now c.args.step.state 0) most_arcs c.arcs.result.now c.arcs.ensures c.states-states.ensures.machine.few_arcs

pub old_place-place-requires-clause-ascends : goal.old_place-place-requires-clause-ascends
old_place-place-requires-clause-ascends g c =
    let on = subst (λ (ks : List ℕ). IsConnectedOn (valued g.W.Weight.value c.args.a.now) (valued g.W.Weight.value (machine_of c.args.self.now.machine)) ks) (sym c.as_slice-kept.ensures.value) c.requires.connected in
    kept_ascends (valued g.W.Weight.value c.args.a.now) (valued g.W.Weight.value (machine_of c.args.self.now.machine)) c.as_slice-kept.result.now on

pub old_place-place-requires-clause-there : goal.old_place-place-requires-clause-there
old_place-place-requires-clause-there g c =
    let on = subst (λ (ks : List ℕ). IsConnectedOn (valued g.W.Weight.value c.args.a.now) (valued g.W.Weight.value (machine_of c.args.self.now.machine)) ks) (sym c.as_slice-kept.ensures.value) c.requires.connected in
    let at = step_place g.W.Weight.value c.args.a.now (machine_of c.args.self.now.machine) c.as_slice-kept.result.now c.args.step.state c.args.step.place c.requires.arc.0 on c.requires.arc.1 c.states-states.ensures.machine in
    (at.0, subst (λ (zs : List (Arc Cost ℕ)). IsKeptAt c.as_slice-kept.result.now zs at.0 c.args.step.place) (arcs_are g.W.Weight.value c.args.a.now (get_or c.as_slice-kept.result.now c.args.step.state 0) c.arcs.result.now c.arcs.ensures) at.1)

pub returns-clause-state : goal.returns-clause-state
returns-clause-state g c =
    let on = subst (λ (ks : List ℕ). IsConnectedOn (valued g.W.Weight.value c.args.a.now) (valued g.W.Weight.value (machine_of c.args.self.now.machine)) ks) (sym c.as_slice-kept.ensures.value) c.requires.connected in
    ap (λ (ks : List ℕ). slice_get ks c.args.step.state) (sym c.as_slice-kept.ensures.value) ∙ step_state g.W.Weight.value c.args.a.now (machine_of c.args.self.now.machine) c.as_slice-kept.result.now c.args.step.state c.args.step.place c.requires.arc.0 on c.requires.arc.1 c.states-states.ensures.machine

pub returns-clause-place : goal.returns-clause-place
returns-clause-place g c =
    let place = subst (λ (zs : List (Arc Cost ℕ)). IsKeptAt c.as_slice-kept.result.now zs c.old_place-place.result c.args.step.place) (sym (arcs_are g.W.Weight.value c.args.a.now (get_or c.as_slice-kept.result.now c.args.step.state 0) c.arcs.result.now c.arcs.ensures)) c.old_place-place.ensures in
    subst (λ (ks : List ℕ). IsKeptAt ks ((graph_of (valued g.W.Weight.value c.args.a.now)).arcs (get_or c.as_slice-kept.result.now c.args.step.state 0)) c.old_place-place.result c.args.step.place) c.as_slice-kept.ensures.value place
