use Rattle.std.proofs.Common.{◌≡◌, take}
use Rattle.fst_distance.specs.Values.{value_in}
use Rattle.fst_select.specs.Thinned.{thinned_states}
use Rattle.fst_select.proofs.thinning.thin_states.Given as goal

abbrev pub invariant-loop-state : goal.invariant-loop-state
invariant-loop-state g l = l.states ≡ thinned_states g.W.Weight.value g.W.Weight.KIND (g.W.Weight.wide_value l.bound) l.none (value_in g.W.Weight.wide_value l.from_start) (value_in g.W.Weight.wide_value l.to_finals) 0 (take l.state l.fst.states)
