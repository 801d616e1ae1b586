use Rattle.std.proofs.Common.{◌≡◌, ◌<◌, ◌≤◌, ◌++◌, ℕ, get_or, length, map, take}
use Rattle.fst_machine.specs.Machine.{Arc, valued_arc}
use Rattle.fst_walk.specs.Names.{key_arc}
use Rattle.fst_compose.specs.Matching.{all_matches}
use Rattle.fst_compose.proofs.matching.put_merged.Given as goal

abbrev pub invariant-loop-a : goal.invariant-loop-a
invariant-loop-a g l = record {
  within : l.place ≤ length l.bs;
  low : (i j : ℕ) (d e : Arc g.row.W.Denot ℕ) → l.a-index ≤ i → i < length l.arcs → j < l.place → (get_or l.bs j e).ilabel < (get_or l.arcs i d).olabel;
  put : map (key_arc g.W.Weight.wide_value) l.out.items ≡ map (key_arc g.W.Weight.wide_value) l.fn.out.items ++ all_matches g.W.Weight.KIND (map (valued_arc g.W.Weight.value) (take l.a-index l.arcs)) (map (valued_arc g.W.Weight.value) l.bs);
}
