use Rattle.std.proofs.Common.{◌≡◌, None, map, take}
use Rattle.fst_machine.specs.Machine.{valued_state}
use Rattle.fst_distance.specs.Filling.{bare}
use Rattle.fst_distance.proofs.widening.bare_states.Given as goal

abbrev pub invariant-loop : goal.invariant-loop
invariant-loop g l = record {
  states : map (valued_state g.W.Weight.wide_value) l.machine.states ≡ bare (take l.counter l.pushed.states);
  start : l.machine.start ≡ None;
}
