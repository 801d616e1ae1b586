use Rattle.std.proofs.Common.{◌≡◌, map, take}
use Rattle.fst_machine.specs.Machine.{changed, valued_arc, valued_state}
use Rattle.fst_distance.specs.Filling.{with_arcs}
use Rattle.fst_distance.proofs.widening.add_arcs.Given as goal

abbrev pub invariant-loop-arc : goal.invariant-loop-arc
invariant-loop-arc g l = record {
  states : map (valued_state g.W.Weight.wide_value) l.machine.states ≡ changed (with_arcs (map (valued_arc g.W.Weight.wide_value) (take l.arc-index l.arcs))) (map (valued_state g.W.Weight.wide_value) l.fn.machine.states) l.state;
  start : l.machine.start ≡ l.fn.machine.start;
}
