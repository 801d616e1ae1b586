use Rattle.std.proofs.Common.{◌≡◌, ◌<◌, All, length}
use Rattle.fst_nbest.proofs.sweeping.by_number.Given as goal

abbrev pub invariant-loop-state : goal.invariant-loop-state
invariant-loop-state l = record {
  size : length l.order.items ≡ l.state;
  low : All (λ q. q < l.states) l.order.items;
}
