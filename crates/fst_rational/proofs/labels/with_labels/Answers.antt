use Rattle.std.proofs.Common.{◌≡◌, List, map, refl, ap, sym, subst, arith}
use Rattle.fst_semiring.specs.Cost.{Cost}
use Rattle.fst_machine.specs.Machine.{State, IsMachine, arc_total, valued, valued_state}
use Rattle.fst_rational.specs.Labels.{labelled_state}
use Rattle.fst_machine.proofs.Valued.{IsMachine-valued, IsMachine-unvalued, arc_total-valued}
use Rattle.fst_rational.proofs.Labelling.{IsMachine-labelled, arc_total-labelled, changed_labelled, only_labelled}
use Rattle.fst_rational.proofs.labels.with_labels.Goals as goal

pub put_states-requires-clause-room : goal.put_states-requires-clause-room
put_states-requires-clause-room g c =
    let reads = g.R.Rules.reads c.args.rules in
    let writes = g.R.Rules.writes c.args.rules in
    let states = map (valued_state g.W.Weight.value) c.args.a.now.states in
    let none : arc_total c.in_ok-states.states ≡ 0 = ap arc_total c.in_ok-states.ensures in
    let changed = ap arc_total (changed_labelled reads writes states) in
    omega (arith, none, changed, arc_total-labelled reads writes states, arc_total-valued g.W.Weight.value c.args.a.now.states, c.states.ensures.machine.few_arcs)

pub into_machine-requires : goal.into_machine-requires
into_machine-requires g c =
    let value = g.W.Weight.value in
    let reads = g.R.Rules.reads c.args.rules in
    let writes = g.R.Rules.writes c.args.rules in
    let states = map (valued_state value) c.args.a.now.states in
    let put : map (valued_state value) c.put_states.new.states ≡ map (labelled_state reads writes) states = only_labelled reads writes value c.args.a.now.states c.in_ok-states.states c.put_states.new.states c.in_ok-states.ensures c.in_ok-put_states.ensures in
    IsMachine-unvalued value (record { start = c.start.result; states = c.put_states.new.states })
    (subst (λ (ss : List (State Cost)). IsMachine (λ v. v) (record { start = c.start.result; states = ss })) (sym put)
    (rw c.start.ensures.value (IsMachine-labelled reads writes (valued value c.args.a.now) c.requires (IsMachine-valued value c.args.a.now c.states.ensures.machine))))

pub returns : goal.returns
returns g c =
    let value = g.W.Weight.value in
    let reads = g.R.Rules.reads c.args.rules in
    let writes = g.R.Rules.writes c.args.rules in
    let states = map (valued_state value) c.args.a.now.states in
    let put : map (valued_state value) c.put_states.new.states ≡ map (labelled_state reads writes) states = only_labelled reads writes value c.args.a.now.states c.in_ok-states.states c.put_states.new.states c.in_ok-states.ensures c.in_ok-put_states.ensures in
    rw (c.into_machine.ensures, put, c.start.ensures.value) refl
