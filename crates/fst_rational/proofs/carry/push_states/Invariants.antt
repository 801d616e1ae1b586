use Rattle.std.proofs.Common.{◌≡◌, ◌++◌, None, map, take, true}
use Rattle.fst_machine.specs.Machine.{valued_state}
use Rattle.fst_rational.specs.Constructions.{carried}
use Rattle.fst_rational.proofs.carry.push_states.Given as goal

abbrev pub invariant-loop-state : goal.invariant-loop-state
invariant-loop-state g l = map (valued_state g.W.Weight.value) l.list ≡ map (valued_state g.W.Weight.value) l.initial.list ++ map (carried l.by true None) (map (valued_state g.W.Weight.value) (take l.state l.fst.states))
