use Rattle.std.proofs.Common.{◌≡◌, ◌≤◌, map, take, refl, sym, ap, subst, subst₂, ◌++◌, ◌∷◌, [], List, ◌+◌, ◌∙◌, ℕ, length, arith}
use Rattle.std.specs.List.{All}
use Rattle.std.proofs.lemmas.List.{length-map, map-append}
use Rattle.fst_semiring.specs.Cost.{Cost}
use Rattle.fst_machine.specs.Machine.{Arc, IsArc, State, Machine, valued_arc, valued_state}
use Rattle.fst_machine.proofs.ArcsReplaced.{all_replaced, arcs_of_machine, counted_by, next_replaced}
use Rattle.fst_codex.specs.Coding.{PutsArcs, PutsStates}
use Rattle.fst_codex.specs.Table.{most_entries, valued_entry, valued_table}
use Rattle.fst_codex.proofs.Putting.{arcs_put, arcs_within, encoded_good, state_next, states_more, total_left}
use Rattle.fst_codex.proofs.encoding.put_in_place.Goals as goal

pub put_arcs-requires-clause-good : goal.put_arcs-requires-clause-good
put_arcs-requires-clause-good g c =
    let value = g.W.Weight.value in
    let m = c.args.machine.now in
    let next = next_replaced m.states c.loop-state.machine.states _ c.loop-state.state c.arcs.result.now [] c.loop-state.invariant.rest c.loop-state.invariant.size c.arcs.ensures refl in
    arcs_within value (length m.states) c.arcs.result.now c.states-state-end.ensures.machine.few_states (arcs_of_machine value m c.loop-state.state c.arcs.result.now c.states-state-end.ensures.machine next.has)

pub put_arcs-requires-clause-room : goal.put_arcs-requires-clause-room
put_arcs-requires-clause-room g c =
    let m = c.args.machine.now in
    let next = next_replaced m.states c.loop-state.machine.states _ c.loop-state.state c.arcs.result.now [] c.loop-state.invariant.rest c.loop-state.invariant.size c.arcs.ensures refl in
    let left = total_left m.states c.loop-state.state next.last c.arcs.result.now next.final next.has in
    omega (arith, left, c.loop-state.invariant.few)

pub replace_arcs-requires-clause-size : goal.replace_arcs-requires-clause-size
replace_arcs-requires-clause-size g c =
    let many = arcs_put g.W.Weight.value _ _ _ _ c.arcs.result.now c.put_arcs.new.out.items c.in_ok-put_arcs.ensures.put in
    counted_by _ c.arcs.result.now c.as_slice.result.now c.arcs.ensures (ap length c.as_slice.ensures.value ∙ many)

pub replace_arcs-requires-clause-arcs : goal.replace_arcs-requires-clause-arcs
replace_arcs-requires-clause-arcs g c =
    let value = g.W.Weight.value in
    let m = c.args.machine.now in
    let arcs = c.arcs.result.now in
    let next = next_replaced m.states c.loop-state.machine.states _ c.loop-state.state arcs [] c.loop-state.invariant.rest c.loop-state.invariant.size c.arcs.ensures refl in
    let left = total_left m.states c.loop-state.state next.last arcs next.final next.has in
    let entries = map (valued_entry value) c.put_arcs.new.coder.entries in
    let few : length entries ≤ most_entries = omega (arith, left, length-map c.put_arcs.new.coder.entries (valued_entry value), c.in_ok-put_arcs.ensures.few, c.loop-state.invariant.few) in
    let good = arcs_of_machine value m c.loop-state.state arcs c.states-state-end.ensures.machine next.has in
    let own = encoded_good value g.W.Weight.KIND c.loop-state.coder.weights entries few (length m.states) arcs c.put_arcs.new.out.items good c.in_ok-put_arcs.ensures.put.put in
    subst (λ (n : ℕ). All (IsArc value n) c.as_slice.result.now) (sym c.loop-state.invariant.size) (subst (λ (xs : List (Arc g.row.W.Denot ℕ)). All (IsArc value (length m.states)) xs) (sym c.as_slice.ensures.value) own)

pub loop-state-preserved : goal.loop-state-preserved
loop-state-preserved g c =
    let value = g.W.Weight.value in
    let i = c.loop-state.state in
    let m = c.args.machine.now in
    let arcs = c.arcs.result.now in
    let own = c.as_slice.result.now in
    let now = c.loop-state.machine.states in
    let next = next_replaced m.states now c.replace_arcs.new.self.states i arcs own c.loop-state.invariant.rest c.loop-state.invariant.size c.arcs.ensures (ap (λ (k : Machine g.row.W.Denot). k.states) c.replace_arcs.ensures) in
    let last = next.last in
    let old = valued_table value c.args.coder.now in
    let mid = valued_table value c.loop-state.coder in
    let new = valued_table value c.put_arcs.new.coder in
    let s : State Cost = record { final = value last; arcs = map (valued_arc value) arcs } in
    let t : State Cost = record { final = value last; arcs = map (valued_arc value) own } in
    let left = total_left m.states i last arcs next.final next.has in
    let read = states_more value m.states i last arcs next.final next.has in
    let written : map (valued_state value) (take (i + 1) c.replace_arcs.new.self.states) ≡ map (valued_state value) (take i now) ++ t ∷ [] = ap (map (valued_state value)) next.done ∙ map-append (valued_state value) (take i now) (record { final = last; arcs = own } ∷ []) in
    let stands : PutsArcs g.W.Weight.KIND c.loop-state.coder.weights s.arcs mid new t.arcs = rw c.as_slice.ensures.value c.in_ok-put_arcs.ensures.put in
    let more = state_next g.W.Weight.KIND (map (valued_state value) (take i m.states)) (map (valued_state value) (take i now)) old mid new s t c.loop-state.invariant.put stands refl in
    record {
      put = subst₂ (λ (xs ys : List (State Cost)). PutsStates g.W.Weight.KIND c.args.coder.now.weights xs old new ys) (sym read) (sym written) more;
      rest = next.rest;
      size = next.size;
      start = ap (λ (k : Machine g.row.W.Denot). k.start) c.replace_arcs.ensures ∙ c.loop-state.invariant.start;
      few = omega (arith, left, c.in_ok-put_arcs.ensures.few, c.loop-state.invariant.few);
    }

pub returns-clause-put : goal.returns-clause-put
returns-clause-put g c =
    let value = g.W.Weight.value in
    let all = all_replaced c.args.machine.now.states c.loop-state.machine.states c.loop-state.state c.loop-state.invariant.size (omega (arith, c.loop-state-test.false, c.states-state-end.ensures.value)) in
    subst₂ (λ (xs ys : List (State g.row.W.Denot)). PutsStates g.W.Weight.KIND c.args.coder.now.weights (map (valued_state value) xs) (valued_table value c.args.coder.now) (valued_table value c.loop-state.coder) (map (valued_state value) ys)) all.1 all.0 c.loop-state.invariant.put
