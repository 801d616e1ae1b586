use Rattle.std.proofs.Common.{◌≡◌, drop, length}
use Rattle.fst_rational.specs.Backing.{counted_back}
use Rattle.fst_rational.proofs.reversal.count_arcs.Given as goal

-- the arcs that are left, counted, make what all of them make
abbrev pub invariant-loop-arc : goal.invariant-loop-arc
invariant-loop-arc g l = record {
  rest : counted_back (drop l.arc-index l.arcs) l.counts.items ≡ counted_back l.arcs l.initial.counts.items;
  size : length l.counts.items ≡ length l.initial.counts.items;
}
