use Rattle.std.proofs.Common.{◌≡◌, ◌<◌, All, length}
use Rattle.fst_nbest.proofs.sweeping.order_of.Given as goal

abbrev pub invariant-loop-taken : goal.invariant-loop-taken
invariant-loop-taken g l = record {
  size : length l.waiting.items ≡ length (g.M.AsMachine.machine l.fst).states;
  low : All (λ q. q < length (g.M.AsMachine.machine l.fst).states) l.order.items;
}
