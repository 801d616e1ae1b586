use Rattle.std.proofs.Common.{◌≡◌, ℕ, [], length, map}
use Rattle.fst_nbest.specs.Entries.{list_at}
use Rattle.fst_nbest.proofs.orders.Orders.new.Given as goal

abbrev pub invariant-loop : goal.invariant-loop
invariant-loop l = record {
  size : length l.lists.items ≡ l.counter;
  empty : (x : ℕ) → list_at (map (λ v. v.items) l.lists.items) x ≡ [];
}
