use Rattle.std.proofs.Common.{◌+◌, ◌≤◌, ◌++◌, ◌∷◌, [], length, map, take, sym, ap, subst, ◌∙◌, append_assoc, arith}
use Rattle.fst_machine.specs.Machine.{arc_total, most_arcs, valued_arc, valued_state}
use Rattle.fst_rational.specs.Constructions.{carried}
use Rattle.fst_replace.specs.Calls.{arcs_of, calls_in}
use Rattle.fst_replace.specs.Expansion.{blocks_size, entered, entered_states}
use Rattle.fst_replace.specs.Rules.{labels_of}
use Rattle.fst_replace.specs.Totals.{shape_at, shifted, standing}
use Rattle.fst_replace.proofs.Emitting.{state_more, state_room, state_size, state_standing, state_starts, state_within}
use Rattle.fst_replace.proofs.expand.put_machine.Goals as goal

pub put_state-requires-clause-starts : goal.put_state-requires-clause-starts
put_state-requires-clause-starts g c = state_starts (labels_of c.args.rules.now) (shape_at c.args.shapes.now) g.W.Weight.value c.args.machine.now.states c.loop-state.state c.final_weight-last.result c.arcs-arcs.result.now c.final_weight-last.ensures c.arcs-arcs.ensures c.requires.starts

pub put_state-requires-clause-room : goal.put_state-requires-clause-room
put_state-requires-clause-room g c =
    let few = state_within (labels_of c.args.rules.now) (shape_at c.args.shapes.now) g.W.Weight.value c.args.machine.now.states c.loop-state.state c.final_weight-last.result c.arcs-arcs.result.now c.final_weight-last.ensures c.arcs-arcs.ensures in
    omega (arith, few, c.loop-state.invariant.next, c.requires.room)

pub put_state-requires-clause-arcs : goal.put_state-requires-clause-arcs
put_state-requires-clause-arcs g c =
    let value = g.W.Weight.value in
    let labels = labels_of c.args.rules.now in
    let s = shape_at c.args.shapes.now in
    let change = carried c.args.place.at c.args.place.keeps c.args.place.target in
    let room = state_room labels s value c.args.machine.now.states c.loop-state.state c.final_weight-last.result c.arcs-arcs.result.now c.final_weight-last.ensures c.arcs-arcs.ensures change (length c.args.machine.now.states) c.args.output.now.states c.loop-state.output.states c.loop-state.invariant.states c.requires.arcs in
    subst (λ n. arc_total c.loop-state.output.states + length (change (record { final = value c.final_weight-last.result; arcs = entered labels s n (map (valued_arc value) c.arcs-arcs.result.now) })).arcs ≤ most_arcs) (sym c.loop-state.invariant.next) room

pub loop-state-preserved : goal.loop-state-preserved
loop-state-preserved g c =
    let value = g.W.Weight.value in
    let labels = labels_of c.args.rules.now in
    let s = shape_at c.args.shapes.now in
    let at = c.args.place.at in
    let change = carried at c.args.place.keeps c.args.place.target in
    let states = c.args.machine.now.states in
    let i = c.loop-state.state in
    let last = c.final_weight-last.result in
    let arcs = c.arcs-arcs.result.now in
    let f = c.in_ok-block.ensures in
    let more = state_more labels s value states i last arcs c.final_weight-last.ensures c.arcs-arcs.ensures change (length states) in
    let size = state_size labels s value states i last arcs c.final_weight-last.ensures c.arcs-arcs.ensures in
    let stands = state_standing labels s value states i last arcs c.final_weight-last.ensures c.arcs-arcs.ensures at in
    let n = length states + blocks_size labels s (calls_in labels (arcs_of (take i states))) in
    let old = map (valued_state value) c.args.output.now.states in
    let done = map change (entered_states labels s (length states) (map (valued_state value) (take i states))) in
    let here = change (record { final = value last; arcs = entered labels s n (map (valued_arc value) arcs) }) in
    record {
      states = f.states ∙ (ap (λ k. map (valued_state value) c.loop-state.output.states ++ change (record { final = value last; arcs = entered labels s k (map (valued_arc value) arcs) }) ∷ []) c.loop-state.invariant.next
          ∙ (ap (λ zs. zs ++ here ∷ []) c.loop-state.invariant.states ∙ (append_assoc old done (here ∷ []) ∙ ap (λ zs. old ++ zs) (sym more))));
      calls = f.calls ∙ (ap (λ zs. zs ++ map (shifted at) (standing s (calls_in labels arcs))) c.loop-state.invariant.calls
          ∙ (append_assoc c.args.output.now.calls.items (map (shifted at) (standing s (calls_in labels (arcs_of (take i states))))) (map (shifted at) (standing s (calls_in labels arcs)))
          ∙ ap (λ zs. c.args.output.now.calls.items ++ zs) (sym stands)));
      next = omega (arith, f.next, c.loop-state.invariant.next, size);
    }
