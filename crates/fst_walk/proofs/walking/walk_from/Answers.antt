use Rattle.std.proofs.Common.{◌≤◌, ℕ, List, [], Option, None, Some, map, refl, sym, ap, subst, subst₂, ◌∙◌}
use Rattle.fst_semiring.specs.Cost.{Cost}
use Rattle.fst_machine.specs.Machine.{IsMachine, Machine, State, most_arcs, valued, valued_state}
use Rattle.fst_machine.proofs.Valued.{IsMachine-unvalued}
use Rattle.fst_walk.specs.Answers.{IsNamed}
use Rattle.fst_walk.specs.Making.{IsDone, IsMaking}
use Rattle.fst_walk.proofs.Ending.{done_fine, done_good, done_made, done_many, done_out}
use Rattle.fst_walk.proofs.Following.{making_begins}
use Rattle.fst_walk.proofs.walking.walk_from.Goals as goal

pub follow_all-requires-clause-making : goal.follow_all-requires-clause-making
follow_all-requires-clause-making g c =
    let graph = g.N.Names.graph c.args.graph.now in
    let output = c.in_ok-output.output in
    let names = c.in_ok-output.ensures.names in
    subst (λ (states : List (State Cost)). IsMaking graph c.args.limit output.names states output.total output.overflow 0) (sym (ap (λ o. map (valued_state g.W.Weight.value) o.states) c.in_ok-output.ensures.states))
    (subst₂ (λ (total : ℕ) (overflow : Option ℕ). IsMaking graph c.args.limit output.names [] total overflow 0) (sym c.in_ok-output.ensures.total) (sym c.in_ok-output.ensures.overflow)
    (making_begins graph c.args.limit c.args.start output.names c.requires.start names.0 names.1))

pub follow_all-requires-clause-closed : goal.follow_all-requires-clause-closed
follow_all-requires-clause-closed g c = λ none low. ap (λ o. o.arcs) c.in_ok-output.ensures.states

pub returns-then-not-branch-clause-cause : goal.returns-then-not-branch-clause-cause
returns-then-not-branch-clause-cause g c = (refl, c.in_ok-follow_all.ensures.stops c.if-not-branch.true)

pub returns-then-output-gt-MOST_ARCS-clause-cause : goal.returns-then-output-gt-MOST_ARCS-clause-cause
returns-then-output-gt-MOST_ARCS-clause-cause g c =
    let graph = g.N.Names.graph c.args.graph.now in
    let output = c.follow_all.new.output in
    let states = map (valued_state g.W.Weight.value) output.states.states in
    done_many graph c.args.limit output.names states output.total output.overflow (c.in_ok-follow_all.ensures.done c.if-not-branch.false) c.if-output-gt-MOST_ARCS.true

pub returns-in-Some-clause-cause : goal.returns-in-Some-clause-cause
returns-in-Some-clause-cause g c =
    let graph = g.N.Names.graph c.args.graph.now in
    let output = c.follow_all.new.output in
    let states = map (valued_state g.W.Weight.value) output.states.states in
    done_out graph c.args.limit output.names states output.total c.in-Some.state (subst (λ (o : Option ℕ). IsDone graph c.args.limit output.names states output.total o) c.in-Some.is (c.in_ok-follow_all.ensures.done c.if-not-branch.false)) c.if-output-gt-MOST_ARCS.false

pub into_list-requires : goal.into_list-requires
into_list-requires g c = c.in_ok-follow_all.ensures.closed c.if-not-branch.false c.in_default.is c.if-output-gt-MOST_ARCS.false

pub into_machine-requires : goal.into_machine-requires
into_machine-requires g c =
    let graph = g.N.Names.graph c.args.graph.now in
    let output = c.follow_all.new.output in
    let states = map (valued_state g.W.Weight.value) output.states.states in
    let done : IsDone graph c.args.limit output.names states output.total None = subst (λ (o : Option ℕ). IsDone graph c.args.limit output.names states output.total o) c.in_default.is (c.in_ok-follow_all.ensures.done c.if-not-branch.false) in
    let low : output.total ≤ most_arcs = c.if-output-gt-MOST_ARCS.false in
    subst (λ list. IsMachine g.W.Weight.value (record { start = Some 0; states = list })) (sym c.into_list.ensures)
    (IsMachine-unvalued g.W.Weight.value (record { start = Some 0; states = output.states.states }) (done_good graph c.args.limit output.names states output.total done low (g.met.N.Names.good c.args.graph.now c.requires.holds) c.requires.few))

pub returns-clause-made : goal.returns-clause-made
returns-clause-made g c =
    let graph = g.N.Names.graph c.args.graph.now in
    let output = c.follow_all.new.output in
    let states = map (valued_state g.W.Weight.value) output.states.states in
    let done : IsDone graph c.args.limit output.names states output.total None = subst (λ (o : Option ℕ). IsDone graph c.args.limit output.names states output.total o) c.in_default.is (c.in_ok-follow_all.ensures.done c.if-not-branch.false) in
    let low : output.total ≤ most_arcs = c.if-output-gt-MOST_ARCS.false in
    subst (λ (m : Machine g.row.W.Denot). IsNamed graph output.names (valued g.W.Weight.value m)) (sym (c.into_machine.ensures ∙ ap (λ list. record { start = Some 0; states = list }) c.into_list.ensures)) (done_made graph c.args.limit output.names states output.total done low)

pub returns-clause-fine : goal.returns-clause-fine
returns-clause-fine g c =
    let graph = g.N.Names.graph c.args.graph.now in
    let output = c.follow_all.new.output in
    let states = map (valued_state g.W.Weight.value) output.states.states in
    let done : IsDone graph c.args.limit output.names states output.total None = subst (λ (o : Option ℕ). IsDone graph c.args.limit output.names states output.total o) c.in_default.is (c.in_ok-follow_all.ensures.done c.if-not-branch.false) in
    done_fine graph c.args.limit output.names states output.total done c.if-output-gt-MOST_ARCS.false
