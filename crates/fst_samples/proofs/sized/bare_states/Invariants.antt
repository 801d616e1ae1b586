use Rattle.std.proofs.Common.{◌≡◌, length}
use Rattle.fst_samples.proofs.sized.bare_states.Given as goal

abbrev pub invariant-loop : goal.invariant-loop
invariant-loop l = length l.fst.states ≡ l.counter
