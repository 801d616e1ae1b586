use Rattle.std.proofs.Common.{◌≡◌, ◌<◌, All, length}
use Rattle.fst_nbest.proofs.sweeping.let_go.Given as goal

abbrev pub invariant-loop-arc : goal.invariant-loop-arc
invariant-loop-arc g l = record {
  size : length l.waiting.items ≡ length l.fn.waiting.items;
  low : All (λ q. q < length l.fn.waiting.items) l.order.items;
}
