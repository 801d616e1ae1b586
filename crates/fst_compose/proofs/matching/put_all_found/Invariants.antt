use Rattle.std.proofs.Common.{◌≡◌, ◌*◌, ◌++◌, length, map, take}
use Rattle.std.specs.List.{flat_map}
use Rattle.fst_machine.specs.Machine.{valued_arc}
use Rattle.fst_trim.specs.Runs.{TakesSteps}
use Rattle.fst_walk.specs.Names.{key_arc}
use Rattle.fst_compose.specs.Composition.{first_arcs}
use Rattle.fst_compose.proofs.matching.put_all_found.Given as goal

abbrev pub invariant-loop-a : goal.invariant-loop-a
invariant-loop-a g l = record {
  put : map (key_arc g.W.Weight.wide_value) l.out.items ≡ map (key_arc g.W.Weight.wide_value) l.fn.out.items ++ flat_map (first_arcs g.W.Weight.KIND l.key (map (valued_arc g.W.Weight.value) l.bs)) (map (valued_arc g.W.Weight.value) (take l.a-index l.arcs));
  cost : TakesSteps (2 * l.a-index) (length l.bs) l.fn.steps l.steps;
}
