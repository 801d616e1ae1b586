use Rattle.std.proofs.Common.{◌≡◌, ◌≤◌, ◌+◌, ◌*◌, length, map, drop, take, All}
use Rattle.std.specs.List.{flat_map}
use Rattle.fst_machine.specs.Machine.{arc_total, most_arcs, valued_state}
use Rattle.fst_binary.specs.Spelling.{HasFields, state_fields}
use Rattle.fst_binary.proofs.encoding.states_length.Given as goal

abbrev pub invariant-loop-state : goal.invariant-loop-state
invariant-loop-state g l =
    let own = g.S.States.states l.states in
    let states = map (valued_state g.W.Weight.value) own in
    let fields = state_fields g.W.Weight.KIND in
    record {
      counted : l.len + length (flat_map fields (drop l.state states)) ≡ length (flat_map fields states);
      fits : All (HasFields g.W.Weight.value g.W.Weight.KIND) (take l.state own);
      few : arc_total (drop l.state states) ≤ most_arcs;
      bound : l.len + 29 * arc_total (drop l.state states) ≤ 25 * l.state + 29 * arc_total own;
    }
