use Rattle.std.proofs.Common.{List, ◌≡◌, ◌+◌, ◌++◌, ◌∷◌, [], map, length, ap, ◌∙◌, arith}
use Rattle.std.proofs.lemmas.Result.{err_from_is_err_and}
use Rattle.std.proofs.lemmas.List.{map_push, length-map}
use Rattle.std.proofs.lemmas.List.Sums.{sum_by_push}
use Rattle.fst_machine.specs.Machine.{State, arc_total, valued_arc, valued_state}
use Rattle.fst_machine.specs.OpenStates.{OpenStates}
use Rattle.fst_binary.specs.Reading.{states_at}
use Rattle.fst_binary.proofs.Loops.{states_stop, states_go_on, states_are_read}
use Rattle.fst_binary.proofs.decoding.read_states.Goals as goal

pub returns-in_err-last-clause-value : goal.returns-in_err-last-clause-value
returns-in_err-last-clause-value g c =
    let p = err_from_is_err_and c.from_residual-in_err-last.result c.from_residual-in_err-last.ensures.1 in
    let header = c.args.header in
    rw (p.1, p.2) (states_stop g.W.Weight.KIND header.states header.arcs c.loop.before (map (valued_state g.W.Weight.value) c.loop.list.states) header.states c.loop.counter c.args.bytes.now c.loop.behind c.in_err-last.field-0.0 (states_at g.W.Weight.KIND header.states header.arcs 0 header.states c.args.bytes.now c.args.at) c.loop-test.true c.in_err-last.ensures.value c.loop.invariant.so_far)

pub loop-preserved : goal.loop-preserved
loop-preserved g c =
    let value = g.W.Weight.value in
    let kind = g.W.Weight.KIND in
    let header = c.args.header in
    let bytes = c.args.bytes.now in
    let list = c.read_state.new.list in
    let state : State g.row.W.Denot = record { final = c.in_ok-last.last; arcs = list.arcs } in
    let same : list.states ≡ c.loop.list.states = c.in_ok-last.ensures.others in
    let grown : c.close.new.self.states ≡ c.loop.list.states ++ state ∷ [] = ap (λ (o : OpenStates g.row.W.Denot). o.states) c.in_ok-close.ensures.ok ∙ ap (λ (ss : List (State g.row.W.Denot)). ss ++ state ∷ []) same in
    let total : arc_total c.close.new.self.states ≡ arc_total c.loop.list.states + length list.arcs = ap arc_total grown ∙ sum_by_push (λ (s : State g.row.W.Denot). length s.arcs) c.loop.list.states state in
    let len : c.arc_count-before.result ≡ c.loop.before + length (valued_state value state).arcs = omega (arith, c.arc_count-before.ensures, ap arc_total same, c.loop.invariant.count, length-map list.arcs (valued_arc value)) in
    let more : map (valued_state value) c.close.new.self.states ≡ map (valued_state value) c.loop.list.states ++ valued_state value state ∷ [] = rw grown (map_push (valued_state value) c.loop.list.states state) in
    let going = states_go_on kind header.states header.arcs c.loop.before (map (valued_state value) c.loop.list.states) header.states c.loop.counter bytes c.loop.behind (valued_state value state) c.in_ok-last.after (states_at kind header.states header.arcs 0 header.states bytes c.args.at) c.loop-test.true c.in_ok-last.ensures.value c.loop.invariant.so_far in
    record {
      so_far = rw (more, len) going;
      count = omega (arith, total, len, length-map list.arcs (valued_arc value));
      none = ap (λ (o : OpenStates g.row.W.Denot). o.arcs) c.in_ok-close.ensures.ok;
      few = omega (arith, len, c.in_ok-last.ensures.most, length-map list.arcs (valued_arc value));
      behind = c.in_ok-last.ensures.behind;
    }

pub returns-clause-value : goal.returns-clause-value
returns-clause-value g c = rw c.into_list.ensures (states_are_read g.W.Weight.KIND c.args.header.states c.args.header.arcs c.loop.before (map (valued_state g.W.Weight.value) c.loop.list.states) c.args.header.states c.loop.counter c.args.bytes.now c.loop.behind (states_at g.W.Weight.KIND c.args.header.states c.args.header.arcs 0 c.args.header.states c.args.bytes.now c.args.at) c.loop-test.false c.loop.invariant.so_far)
