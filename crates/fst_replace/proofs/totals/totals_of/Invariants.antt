use Rattle.std.proofs.Common.{◌≡◌, ◌≤◌, ℕ, get_or, length, take}
use Rattle.fst_machine.specs.BreadthFirst.{Has}
use Rattle.fst_replace.specs.Totals.{IsTotal}
use Rattle.fst_replace.specs.Walks.{at_place}
use Rattle.fst_replace.proofs.totals.totals_of.Given as goal

abbrev pub invariant-loop-at : goal.invariant-loop-at
invariant-loop-at l = record {
  size : length l.totals.items ≡ length l.calls;
  right : (count : ℕ → ℕ) → IsTotal (at_place l.calls) l.own l.brought l.order count → (i : ℕ) → Has (take l.at l.order) i → (get_or l.totals.items i 0 ≡ count i) × (count i ≤ l.most);
}
