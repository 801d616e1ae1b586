use Rattle.std.proofs.Common.{◌≡◌, take}
use Rattle.std.specs.List.{All}
use Rattle.fst_determinize.specs.Kept.{ways_as}
use Rattle.fst_determinize.specs.Ways.{best_of}
use Rattle.fst_determinize.proofs.making.state_run.Given as goal

abbrev pub invariant-loop-way : goal.invariant-loop-way
invariant-loop-way g l = record {
  count : l.count ≡ l.way-index;
  same : All (λ y. y.state ≡ l.state) (take l.way-index l.ways);
  best : g.W.Weight.wide_value l.least ≡ best_of (ways_as g.W.Weight.wide_value (take l.way-index l.ways));
}
