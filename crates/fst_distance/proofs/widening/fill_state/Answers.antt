use Rattle.std.proofs.Common.{◌≡◌, ℕ, length, map, get_or, sym, ap, ◌∙◌, subst, arith}
use Rattle.std.specs.List.{All}
use Rattle.std.proofs.lemmas.List.{length-map}
use Rattle.fst_machine.specs.Graph.{graph_of, no_state}
use Rattle.fst_machine.specs.Machine.{IsArc, Machine, valued_arc}
use Rattle.fst_distance.proofs.Filling.{fill_one, final_size, raw_good}
use Rattle.fst_distance.proofs.widening.fill_state.Goals as goal

pub add_arcs-requires-clause-state : goal.add_arcs-requires-clause-state
add_arcs-requires-clause-state g c =
    let same = final_size g.W.Weight.wide_value c.args.machine.now.states c.set_final.new.self.states c.args.state c.final_weight.result (ap (λ (m : Machine _). m.states) c.set_final.ensures) in
    omega (arith, same.0, c.requires.size, c.requires.state)

pub add_arcs-requires-clause-arcs : goal.add_arcs-requires-clause-arcs
add_arcs-requires-clause-arcs g c =
    let w = g.W.Weight in
    let m = c.args.pushed.now in
    let same = final_size w.wide_value c.args.machine.now.states c.set_final.new.self.states c.args.state c.final_weight.result (ap (λ (n : Machine _). n.states) c.set_final.ensures) in
    let count : length m.states ≡ length c.set_final.new.self.states = sym (same.0 ∙ c.requires.size) in
    let good : All (IsArc (λ v. v) (length m.states)) ((graph_of m).arcs c.args.state) = c.states-states.ensures.machine.arcs c.args.state no_state c.requires.state in
    raw_good w.wide_value (length c.set_final.new.self.states) c.deref.result.now ((graph_of m).arcs c.args.state) (ap (map (valued_arc w.wide_value)) c.deref.ensures.value ∙ c.in_ok-put_arcs.ensures.arcs)
    (subst (λ (n : ℕ). All (IsArc (λ v. v) n) ((graph_of m).arcs c.args.state)) count good)

pub add_arcs-requires-clause-room : goal.add_arcs-requires-clause-room
add_arcs-requires-clause-room g c =
    let w = g.W.Weight in
    let m = c.args.pushed.now in
    let same = final_size w.wide_value c.args.machine.now.states c.set_final.new.self.states c.args.state c.final_weight.result (ap (λ (n : Machine _). n.states) c.set_final.ensures) in
    let arcs : length c.deref.result.now ≡ length (get_or m.states c.args.state no_state).arcs = sym (length-map c.deref.result.now (valued_arc w.wide_value)) ∙ ap length (ap (map (valued_arc w.wide_value)) c.deref.ensures.value ∙ c.in_ok-put_arcs.ensures.arcs) in
    omega (arith, same.1, arcs, c.requires.room)

pub returns-clause-states : goal.returns-clause-states
returns-clause-states g c =
    let w = g.W.Weight in
    let m = c.args.pushed.now in
    fill_one w.wide_value (get_or m.states c.args.state no_state) c.args.machine.now.states c.set_final.new.self.states c.add_arcs.new.machine.states c.args.state c.final_weight.result c.deref.result.now
    (ap (λ (n : Machine _). n.states) c.set_final.ensures) c.final_weight.ensures.value (ap (map (valued_arc w.wide_value)) c.deref.ensures.value ∙ c.in_ok-put_arcs.ensures.arcs) c.in_ok-add_arcs.ensures.states
