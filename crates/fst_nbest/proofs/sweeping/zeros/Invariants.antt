use Rattle.std.proofs.Common.{◌≡◌, ℕ, length}
use Rattle.fst_semiring.specs.Cost.{infinite}
use Rattle.fst_nbest.specs.Ready.{dist_in}
use Rattle.fst_nbest.proofs.sweeping.zeros.Given as goal

abbrev pub invariant-loop : goal.invariant-loop
invariant-loop g l = record {
  size : length l.dist.items ≡ l.counter;
  none : (q : ℕ) → dist_in g.W.Weight.wide_value l.dist.items q ≡ infinite;
}
