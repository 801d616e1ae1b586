use Rattle.std.proofs.Common.{◌≡◌, ◌≤◌, ◌+◌, ◌-◌, ◌++◌, ℕ, length, drop, take}
use Rattle.fst_machine.specs.Renumbered.{marked_arcs}
use Rattle.fst_machine.proofs.fst.retain.retain_arcs.Given as goal

abbrev pub invariant-loop-place : goal.invariant-loop-place
invariant-loop-place g l = record {
  kept : take l.end l.store ++ marked_arcs l.marks l.numbers (take (l.first + l.count - l.place) (drop l.place l.fn.store)) ≡ take l.to l.fn.store ++ marked_arcs l.marks l.numbers (take l.count (drop l.first l.fn.store));
  behind : (n : ℕ) → l.place ≤ n → drop n l.store ≡ drop n l.fn.store;
  size : length l.store ≡ length l.fn.store;
  low : l.to ≤ l.end;
  high : l.end + l.first ≤ l.to + l.place;
  from : l.first ≤ l.place;
  none : l.place ≡ l.first → l.store ≡ l.fn.store;
}
