use Rattle.std.proofs.Common.{ℕ, ◌<◌, ◌≡◌, Bool, true, get_or}
use Rattle.fst_trim.proofs.connected.all_marked.Given as goal

abbrev pub invariant-loop-mark : goal.invariant-loop-mark
invariant-loop-mark l = (i : ℕ) (d : Bool) → i < l.mark-index → get_or l.marks i d ≡ true
