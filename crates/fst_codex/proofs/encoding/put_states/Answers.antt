use Rattle.std.proofs.Common.{◌≡◌, map, take, refl, sym, ap, subst₂, ◌++◌, ◌∷◌, [], List, ◌+◌, length, arith}
use Rattle.std.proofs.lemmas.List.{map-append}
use Rattle.std.proofs.lemmas.List.Sums.{sum_by_push}
use Rattle.fst_semiring.specs.Cost.{Cost}
use Rattle.fst_machine.specs.Machine.{State, arc_total, valued_arc, valued_state}
use Rattle.fst_codex.specs.Coding.{PutsArcs, PutsStates}
use Rattle.fst_codex.specs.Table.{valued_table}
use Rattle.fst_codex.proofs.Putting.{arcs_put, state_next, states_more, total_left}
use Rattle.fst_codex.proofs.encoding.put_states.Goals as goal

pub put_arcs-requires-clause-room : goal.put_arcs-requires-clause-room
put_arcs-requires-clause-room g c =
    let left = total_left c.args.fst.now.states c.loop-state.state c.final_weight-last.result c.arcs.result.now c.final_weight-last.ensures c.arcs.ensures in
    omega (arith, left, c.loop-state.invariant.few)

pub push-requires : goal.push-requires
push-requires g c =
    let left = total_left c.args.fst.now.states c.loop-state.state c.final_weight-last.result c.arcs.result.now c.final_weight-last.ensures c.arcs.ensures in
    let many = arcs_put g.W.Weight.value _ _ _ _ c.arcs.result.now c.put_arcs.new.out.items c.in_ok-put_arcs.ensures.put in
    omega (arith, left, many, c.loop-state.invariant.room, c.as_slice.ensures.len, ap length c.as_slice.ensures.value)

pub loop-state-preserved : goal.loop-state-preserved
loop-state-preserved g c =
    let value = g.W.Weight.value in
    let i = c.loop-state.state in
    let last = c.final_weight-last.result in
    let arcs = c.arcs.result.now in
    let own = c.as_slice.result.now in
    let old = valued_table value c.args.coder.now in
    let mid = valued_table value c.loop-state.coder in
    let new = valued_table value c.put_arcs.new.coder in
    let s : State Cost = record { final = value last; arcs = map (valued_arc value) arcs } in
    let t : State Cost = record { final = value last; arcs = map (valued_arc value) own } in
    let left = total_left c.args.fst.now.states i last arcs c.final_weight-last.ensures c.arcs.ensures in
    let many = arcs_put value _ _ _ _ arcs c.put_arcs.new.out.items c.in_ok-put_arcs.ensures.put in
    let read = states_more value c.args.fst.now.states i last arcs c.final_weight-last.ensures c.arcs.ensures in
    let written : map (valued_state value) c.push.new.self ≡ map (valued_state value) c.loop-state.states ++ t ∷ [] = rw c.in_ok-push.ensures.ok (map-append (valued_state value) c.loop-state.states (record { final = last; arcs = own } ∷ [])) in
    let total : arc_total c.push.new.self ≡ arc_total c.loop-state.states + length own = rw c.in_ok-push.ensures.ok (sum_by_push (λ s. length s.arcs) c.loop-state.states (record { final = last; arcs = own })) in
    let stands : PutsArcs g.W.Weight.KIND c.loop-state.coder.weights s.arcs mid new t.arcs = rw c.as_slice.ensures.value c.in_ok-put_arcs.ensures.put in
    let more = state_next g.W.Weight.KIND (map (valued_state value) (take i c.args.fst.now.states)) (map (valued_state value) c.loop-state.states) old mid new s t c.loop-state.invariant.put stands refl in
    record {
      put = subst₂ (λ (xs ys : List (State Cost)). PutsStates g.W.Weight.KIND c.args.coder.now.weights xs old new ys) (sym read) (sym written) more;
      few = omega (arith, left, c.in_ok-put_arcs.ensures.few, c.loop-state.invariant.few);
      room = omega (arith, left, many, total, c.loop-state.invariant.room, ap length c.as_slice.ensures.value);
    }
