use Rattle.std.proofs.Common.{◌≡◌, ◌≤◌, ◌+◌, ◌++◌, ◌∷◌, [], ℕ, List, map, take, length, sym, ap, ◌∙◌, arith}
use Rattle.std.proofs.lemmas.List.{length-map, map-append, take_all}
use Rattle.fst_semiring.specs.Cost.{Cost}
use Rattle.fst_machine.specs.Machine.{Arc, State, arc_total, most_arcs, valued_arc, valued_state}
use Rattle.fst_machine.proofs.Valued.{arc_total-valued}
use Rattle.fst_rational.proofs.States.{state_fits, state_put}
use Rattle.fst_trim.proofs.Places.{above_all, above_more}
use Rattle.fst_codex.specs.Decoded.{PassesRange, decoded_arc, decoded_state}
use Rattle.fst_codex.specs.Table.{valued_table}
use Rattle.fst_codex.proofs.TurnedBack.{all_inside, arcs_fault, total-decoded}
use Rattle.fst_codex.proofs.decoding.decode_states.Goals as goal

pub decode_arcs-requires : goal.decode_arcs-requires
decode_arcs-requires g c = all_inside (length c.args.codex.now.entries) c.args.fst.now c.loop-state.state c.arcs.result.now c.arcs.ensures c.requires

pub returns-in-Err-clause-decoded : goal.returns-in-Err-clause-decoded
returns-in-Err-clause-decoded g c = arcs_fault g.W.Weight.KIND g.W.Weight.value (valued_table g.W.Weight.value c.args.codex.now) c.args.fst.now c.loop-state.state c.arcs.result.now c.decode_arcs.new.out.items c.in-Err.fault c.arcs.ensures c.loop-state.invariant.none c.in-Err.ensures

pub push-requires : goal.push-requires
push-requires g c =
    let value = g.W.Weight.value in
    let t = valued_table value c.args.codex.now in
    let change = decoded_state g.W.Weight.KIND t in
    let states = map (valued_state value) c.args.fst.now.states in
    let own : length c.as_slice.result.now ≡ length c.arcs.result.now =
    ap length c.as_slice.ensures.value ∙ (sym (length-map c.decode_arcs.new.out.items (valued_arc value)) ∙ (ap length c.in-Ok.ensures.0 ∙ (length-map (map (valued_arc value) c.arcs.result.now) (decoded_arc g.W.Weight.KIND t) ∙ length-map c.arcs.result.now (valued_arc value)))) in
    let mapped : length (map (decoded_arc g.W.Weight.KIND t) (map (valued_arc value) c.arcs.result.now)) ≡ length c.arcs.result.now = length-map (map (valued_arc value) c.arcs.result.now) (decoded_arc g.W.Weight.KIND t) ∙ length-map c.arcs.result.now (valued_arc value) in
    let all : arc_total {V = g.row.W.Denot} [] + arc_total (map change states) ≤ most_arcs = omega (arith, total-decoded g.W.Weight.KIND t states, arc_total-valued value c.args.fst.now.states, c.states-state-end.ensures.machine.few_arcs) in
    let fits = state_fits value change c.args.fst.now.states c.loop-state.state c.final_weight-last.result c.arcs.result.now c.final_weight-last.ensures c.arcs.ensures [] c.loop-state.states c.loop-state.invariant.put all in
    omega (arith, own, mapped, fits)

pub loop-state-preserved : goal.loop-state-preserved
loop-state-preserved g c =
    let value = g.W.Weight.value in
    let t = valued_table value c.args.codex.now in
    let change = decoded_state g.W.Weight.KIND t in
    let last = c.final_weight-last.result in
    let own = c.as_slice.result.now in
    let stands : map (valued_arc value) own ≡ map (decoded_arc g.W.Weight.KIND t) (map (valued_arc value) c.arcs.result.now) = ap (map (valued_arc value)) c.as_slice.ensures.value ∙ c.in-Ok.ensures.0 in
    let written : map (valued_state value) c.push.new.self ≡ map (valued_state value) c.loop-state.states ++ change (record { final = value last; arcs = map (valued_arc value) c.arcs.result.now }) ∷ [] =
    ap (map (valued_state value)) c.in_ok-push.ensures.ok ∙ (map-append (valued_state value) c.loop-state.states (record { final = last; arcs = own } ∷ []) ∙ ap (λ (xs : List (Arc Cost ℕ)). map (valued_state value) c.loop-state.states ++ record { final = value last; arcs = xs } ∷ []) stands) in
    record {
      put = state_put value change c.args.fst.now.states c.loop-state.state last c.arcs.result.now c.final_weight-last.ensures c.arcs.ensures [] c.loop-state.states c.push.new.self c.loop-state.invariant.put written;
      none = above_more (PassesRange g.W.Weight.KIND value t) c.args.fst.now c.loop-state.state c.arcs.result.now c.arcs.ensures c.loop-state.invariant.none c.in-Ok.ensures.1;
    }

pub returns-clause-decoded : goal.returns-clause-decoded
returns-clause-decoded g c =
    let value = g.W.Weight.value in
    let t = valued_table value c.args.codex.now in
    let whole : take c.loop-state.state c.args.fst.now.states ≡ c.args.fst.now.states = take_all c.loop-state.state c.args.fst.now.states (omega (arith, c.loop-state-test.false, c.states-state-end.ensures.value)) in
    (c.loop-state.invariant.put ∙ ap (λ (ss : List (State g.row.W.Denot)). map (decoded_state g.W.Weight.KIND t) (map (valued_state value) ss)) whole, above_all (PassesRange g.W.Weight.KIND value t) c.args.fst.now (λ state place low. c.loop-state.invariant.none state place (omega (arith, c.loop-state-test.false, c.states-state-end.ensures.value, low))))
