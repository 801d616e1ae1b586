use Rattle.std.proofs.Common.{◌≡◌, ◌++◌, length, map}
use Rattle.fst_walk.specs.Names.{key_arc}
use Rattle.fst_determinize.specs.Kept.{AreGoodWays, ways_as}
use Rattle.fst_determinize.specs.Ways.{arcs_by}
use Rattle.fst_determinize.proofs.making.put_arcs.Given as goal

abbrev pub invariant-loop-first : goal.invariant-loop-first
invariant-loop-first g l = record {
  ways : AreGoodWays g.W.Weight.wide_value l.rest;
  put : map (key_arc g.W.Weight.wide_value) l.out.items ++ arcs_by g.W.Weight.KIND (ways_as g.W.Weight.wide_value l.rest)
      ≡ map (key_arc g.W.Weight.wide_value) l.fn.out.items ++ arcs_by g.W.Weight.KIND (ways_as g.W.Weight.wide_value l.ways);
}

abbrev pub decreases-loop-first : goal.decreases-loop-first
decreases-loop-first g l = length l.rest
