use Rattle.std.proofs.Common.{◌≡◌, ◌++◌, map, take}
use Rattle.std.specs.List.{flat_map}
use Rattle.fst_machine.specs.Machine.{valued_arc}
use Rattle.fst_compose.specs.Composition.{match_arcs}
use Rattle.fst_walk.specs.Names.{key_arc}
use Rattle.fst_compose.proofs.expanding.put_matches.Given as goal

abbrev pub invariant-loop-b : goal.invariant-loop-b
invariant-loop-b g l = map (key_arc g.W.Weight.wide_value) l.out.items ≡ map (key_arc g.W.Weight.wide_value) l.fn.out.items ++ flat_map (match_arcs g.W.Weight.KIND (valued_arc g.W.Weight.value l.a)) (map (valued_arc g.W.Weight.value) (take l.b-index l.bs))
