use Rattle.std.proofs.Common.{◌≡◌, take}
use Rattle.fst_samples.proofs.texts.without_start.Given as goal

abbrev pub invariant-loop-state : goal.invariant-loop-state
invariant-loop-state g l = l.list ≡ take l.state l.fst.states
