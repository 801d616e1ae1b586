use Rattle.std.proofs.Common.{◌<◌, All, length}
use Rattle.fst_nbest.proofs.sweeping.first_states.Given as goal

abbrev pub invariant-loop-state : goal.invariant-loop-state
invariant-loop-state l = All (λ q. q < length l.waiting.items) l.order.items
