use Rattle.std.proofs.Common.{◌≡◌, ◌++◌, length}
use Rattle.fst_determinize.specs.Kept.{AreDivided, members_as, ways_as}
use Rattle.fst_determinize.specs.Ways.{members_of}
use Rattle.fst_determinize.proofs.making.put_members.Given as goal

abbrev pub invariant-loop-first : goal.invariant-loop-first
invariant-loop-first g l = record {
  ways : AreDivided g.W.Weight.wide_value (g.W.Weight.wide_value l.best) l.rest;
  put : members_as g.R.Kept.value l.out.items ++ members_of g.W.Weight.KIND (g.W.Weight.wide_value l.best) (ways_as g.W.Weight.wide_value l.rest)
      ≡ members_as g.R.Kept.value l.fn.out.items ++ members_of g.W.Weight.KIND (g.W.Weight.wide_value l.best) (ways_as g.W.Weight.wide_value l.run);
}

abbrev pub decreases-loop-first : goal.decreases-loop-first
decreases-loop-first g l = length l.rest
