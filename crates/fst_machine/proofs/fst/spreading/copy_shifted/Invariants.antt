use Rattle.std.proofs.Common.{◌≡◌, ◌≤◌, ◌+◌, ◌-◌, ◌++◌, ℕ, length, drop, map, take}
use Rattle.fst_machine.specs.Extending.{wrapped}
use Rattle.fst_machine.proofs.fst.spreading.copy_shifted.Given as goal

abbrev pub invariant-loop-place : goal.invariant-loop-place
invariant-loop-place g l = record {
  kept : take l.end l.store ++ map (wrapped l.by) (take (l.first + l.count - l.place) (drop l.place l.fn.store)) ≡ take l.to l.fn.store ++ map (wrapped l.by) (take l.count (drop l.first l.fn.store));
  behind : (n : ℕ) → l.place ≤ n → drop n l.store ≡ drop n l.fn.store;
  size : length l.store ≡ length l.fn.store;
  level : l.end + l.first ≡ l.to + l.place;
  from : l.first ≤ l.place;
  high : l.place ≤ l.first + l.count;
  none : l.place ≡ l.first → l.store ≡ l.fn.store;
}
