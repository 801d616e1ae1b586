use Rattle.std.proofs.Common.{◌≡◌, map, take}
use Rattle.std.specs.List.{All}
use Rattle.fst_machine.specs.Machine.{valued_state}
use Rattle.fst_machine.specs.Narrowing.{IsInRange}
use Rattle.fst_minimize.specs.Classes.{class_machine}
use Rattle.fst_minimize.specs.Laws.{totalled}
use Rattle.fst_minimize.proofs.making.class_states.Given as goal

abbrev pub invariant-loop-class : goal.invariant-loop-class
invariant-loop-class g l = record {
  states : map (valued_state g.W.Weight.value) l.list ≡ take l.class (totalled g.W.Weight.KIND (g.W.Weight.wide_value l.total) (class_machine l.pushed l.classes.numbers.items l.classes.least.items)).states;
  range : All IsInRange (take l.class (totalled g.W.Weight.KIND (g.W.Weight.wide_value l.total) (class_machine l.pushed l.classes.numbers.items l.classes.least.items)).states);
}
