use Rattle.std.proofs.Common.{◌≡◌, ◌++◌, map, take}
use Rattle.fst_machine.specs.Machine.{valued_arc}
use Rattle.fst_walk.specs.Names.{key_arc}
use Rattle.fst_compose.specs.Matching.{all_matches}
use Rattle.fst_compose.proofs.matching.put_products.Given as goal

abbrev pub invariant-loop-a : goal.invariant-loop-a
invariant-loop-a g l = map (key_arc g.W.Weight.wide_value) l.out.items ≡ map (key_arc g.W.Weight.wide_value) l.fn.out.items ++ all_matches g.W.Weight.KIND (map (valued_arc g.W.Weight.value) (take l.a-index l.arcs)) (map (valued_arc g.W.Weight.value) l.bs)
