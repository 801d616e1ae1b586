use Rattle.std.proofs.Common.{◌≤◌, ◌+◌, length, map, take, drop}
use Rattle.fst_machine.specs.Machine.{arc_total, most_arcs, valued_state}
use Rattle.fst_codex.specs.Coding.{PutsStates}
use Rattle.fst_codex.specs.Table.{valued_table}
use Rattle.fst_codex.proofs.encoding.put_states.Given as goal

-- the states so far stand there, and there is room for the arcs of the others and their entries
abbrev pub invariant-loop-state : goal.invariant-loop-state
invariant-loop-state g l = record {
  put : PutsStates g.W.Weight.KIND l.initial.coder.weights (map (valued_state g.W.Weight.value) (take l.state l.fst.states)) (valued_table g.W.Weight.value l.initial.coder) (valued_table g.W.Weight.value l.coder) (map (valued_state g.W.Weight.value) l.states);
  few : length l.coder.entries + arc_total (drop l.state l.fst.states) ≤ most_arcs;
  room : arc_total l.states + arc_total (drop l.state l.fst.states) ≤ most_arcs;
}
