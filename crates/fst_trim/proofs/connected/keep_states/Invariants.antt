use Rattle.std.proofs.Common.{◌≡◌, ◌≤◌, ◌++◌, drop, take}
use Rattle.fst_machine.specs.Machine.{arc_total}
use Rattle.fst_machine.specs.Renumbered.{marked_states}
use Rattle.fst_trim.proofs.connected.keep_states.Given as goal

abbrev pub invariant-loop-state : goal.invariant-loop-state
invariant-loop-state g l = record {
  built : l.states ++ marked_states l.marks l.numbers l.state (drop l.state l.fst.states) ≡ marked_states l.marks l.numbers 0 l.fst.states;
  few : arc_total l.states ≤ arc_total (take l.state l.fst.states);
}
