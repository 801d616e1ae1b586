use Rattle.std.proofs.Common.{◌≡◌, ◌≤◌, map, take}
use Rattle.fst_machine.specs.Machine.{valued_state}
use Rattle.fst_rational.specs.Changing.{goings}
use Rattle.fst_rational.proofs.change.count_onward.Given as goal

abbrev pub invariant-loop-state : goal.invariant-loop-state
invariant-loop-state g l = record {
  counted : l.count ≡ goings l.target (map (valued_state g.W.Weight.value) (take l.state l.fst.states));
  few : l.count ≤ l.state;
}
