use Rattle.std.proofs.Common.{◌≡◌, ◌++◌, map, take}
use Rattle.fst_machine.specs.Machine.{valued_state}
use Rattle.fst_rational.specs.Changing.{changed_state}
use Rattle.fst_rational.proofs.change.put_states.Given as goal

abbrev pub invariant-loop-state : goal.invariant-loop-state
invariant-loop-state g l = map (valued_state g.W.Weight.value) l.states ≡ map (valued_state g.W.Weight.value) l.initial.states ++ map (changed_state (g.C.Change.changed_arc l.change) (g.C.Change.changed_final l.change) (g.C.Change.target l.change)) (map (valued_state g.W.Weight.value) (take l.state l.fst.states))
