use Rattle.std.proofs.Common.{◌≡◌, map, take}
use Rattle.std.specs.List.{All}
use Rattle.fst_machine.specs.Machine.{valued_state}
use Rattle.fst_machine.specs.Narrowing.{IsInRange}
use Rattle.fst_distance.specs.Totals.{put_on}
use Rattle.fst_distance.proofs.totalling.placed_states.Given as goal

abbrev pub invariant-loop-state : goal.invariant-loop-state
invariant-loop-state g l = record {
  states : map (valued_state g.W.Weight.value) l.list ≡ take l.state (put_on g.W.Weight.KIND (g.W.Weight.wide_value l.total) l.pushed l.place).states;
  range : All IsInRange (take l.state (put_on g.W.Weight.KIND (g.W.Weight.wide_value l.total) l.pushed l.place).states);
}
