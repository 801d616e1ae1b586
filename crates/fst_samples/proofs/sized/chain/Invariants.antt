use Rattle.std.proofs.Common.{◌≡◌, ◌+◌, length}
use Rattle.fst_samples.proofs.sized.chain.Given as goal

abbrev pub invariant-loop : goal.invariant-loop
invariant-loop l = (length l.fst.states ≡ l.counter + 1) × (l.last ≡ l.counter)
