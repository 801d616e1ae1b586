use Rattle.std.proofs.Common.{◌≡◌, map, take}
use Rattle.std.specs.List.{All}
use Rattle.fst_machine.specs.Machine.{valued, valued_state}
use Rattle.fst_machine.specs.Narrowing.{IsInRange}
use Rattle.fst_machine.proofs.narrow.narrow_states.Given as goal

abbrev pub invariant-loop-state : goal.invariant-loop-state
invariant-loop-state g l = record {
  states : map (valued_state g.W.Weight.value) l.list ≡ take l.state (valued g.W.Weight.wide_value l.wide).states;
  range : All IsInRange (take l.state (valued g.W.Weight.wide_value l.wide).states);
}
