use Rattle.std.proofs.Common.{◌≡◌, None, map}
use Rattle.fst_machine.specs.Machine.{valued_state}
use Rattle.fst_distance.specs.Filling.{part_filled}
use Rattle.fst_distance.proofs.widening.filled_states.Given as goal

abbrev pub invariant-loop-state : goal.invariant-loop-state
invariant-loop-state g l = record {
  states : map (valued_state g.W.Weight.wide_value) l.machine.states ≡ part_filled l.state l.pushed.states;
  start : l.machine.start ≡ None;
}
