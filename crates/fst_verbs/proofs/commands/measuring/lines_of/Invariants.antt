use Rattle.std.proofs.Common.{◌≡◌, ◌≤◌, All, length, map, take}
use Rattle.fst_semiring.specs.Semiring.{InRange}
use Rattle.fst_verbs.specs.Measuring.{distance_lines}
use Rattle.fst_verbs.proofs.commands.measuring.lines_of.Given as goal

abbrev pub invariant-loop-state : goal.invariant-loop-state
invariant-loop-state g l = record {
  within : l.state ≤ length l.distances;
  told : l.lines.items ≡ distance_lines g.W.Weight.KIND 0 (map g.W.Weight.wide_value (take l.state l.distances));
  range : All InRange (map g.W.Weight.wide_value (take l.state l.distances));
}
