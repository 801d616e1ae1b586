use Rattle.std.proofs.Common.{◌≡◌, ◌≤◌, ℕ, Some, length, map, slice_get}
use Rattle.fst_semiring.specs.Cost.{Cost, infinite}
use Rattle.fst_machine.specs.Machine.{State, bare_state, valued_state}
use Rattle.fst_batch.proofs.filling.blank_machine.Given as goal

abbrev pub invariant-loop : goal.invariant-loop
invariant-loop g l = record {
  within : l.counter ≤ l.count;
  size : length l.fst.states ≡ l.counter;
  bare : (j : ℕ) (s : State Cost) → slice_get (map (valued_state g.W.Weight.wide_value) l.fst.states) j ≡ Some s → s ≡ bare_state infinite;
}
