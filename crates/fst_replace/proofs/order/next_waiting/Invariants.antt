use Rattle.std.proofs.Common.{◌≡◌, ℕ, ◌<◌, ◌≤◌, Some, get_or, slice_get}
use Rattle.fst_replace.specs.declared.order.Mark.TheVariants.{New, Done}
use Rattle.fst_replace.proofs.order.next_waiting.Given as goal

abbrev pub invariant-loop-at : goal.invariant-loop-at
invariant-loop-at l = (c j : ℕ) → l.cursor ≤ c → c < l.at → slice_get l.places c ≡ Some j → get_or l.marks j New ≡ Done
