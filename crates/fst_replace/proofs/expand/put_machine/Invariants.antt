use Rattle.std.proofs.Common.{◌≡◌, ◌+◌, ◌++◌, length, map, take}
use Rattle.fst_machine.specs.Machine.{valued_state}
use Rattle.fst_rational.specs.Constructions.{carried}
use Rattle.fst_replace.specs.Calls.{arcs_of, calls_in}
use Rattle.fst_replace.specs.Expansion.{blocks_size, entered_states}
use Rattle.fst_replace.specs.Rules.{labels_of}
use Rattle.fst_replace.specs.Totals.{shape_at, shifted, standing}
use Rattle.fst_replace.proofs.expand.put_machine.Given as goal

abbrev pub invariant-loop-state : goal.invariant-loop-state
invariant-loop-state g l = record {
  states : map (valued_state g.W.Weight.value) l.output.states ≡ map (valued_state g.W.Weight.value) l.initial.output.states ++ map (carried l.place.at l.place.keeps l.place.target) (entered_states (labels_of l.rules) (shape_at l.shapes) (length l.machine.states) (map (valued_state g.W.Weight.value) (take l.state l.machine.states)));
  calls : l.output.calls.items ≡ l.initial.output.calls.items ++ map (shifted l.place.at) (standing (shape_at l.shapes) (calls_in (labels_of l.rules) (arcs_of (take l.state l.machine.states))));
  next : l.block ≡ length l.machine.states + blocks_size (labels_of l.rules) (shape_at l.shapes) (calls_in (labels_of l.rules) (arcs_of (take l.state l.machine.states)));
}
