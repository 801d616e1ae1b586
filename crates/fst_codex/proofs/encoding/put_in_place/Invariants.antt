use Rattle.std.proofs.Common.{◌≡◌, ◌≤◌, ◌+◌, length, map, take, drop}
use Rattle.fst_machine.specs.Machine.{arc_total, most_arcs, valued_state}
use Rattle.fst_codex.specs.Coding.{PutsStates}
use Rattle.fst_codex.specs.Table.{valued_table}
use Rattle.fst_codex.proofs.encoding.put_in_place.Given as goal

-- the states so far stand for those that were there, the others are as they were, and there is room for their entries
abbrev pub invariant-loop-state : goal.invariant-loop-state
invariant-loop-state g l = record {
  put : PutsStates g.W.Weight.KIND l.initial.coder.weights (map (valued_state g.W.Weight.value) (take l.state l.initial.machine.states)) (valued_table g.W.Weight.value l.initial.coder) (valued_table g.W.Weight.value l.coder) (map (valued_state g.W.Weight.value) (take l.state l.machine.states));
  rest : drop l.state l.machine.states ≡ drop l.state l.initial.machine.states;
  size : length l.machine.states ≡ length l.initial.machine.states;
  start : l.machine.start ≡ l.initial.machine.start;
  few : length l.coder.entries + arc_total (drop l.state l.initial.machine.states) ≤ most_arcs;
}
