use Rattle.std.proofs.Common.{◌≡◌, All, true, false, get_or, take}
use Rattle.fst_minimize.proofs.along.all_marked.Given as goal

abbrev pub invariant-loop-state : goal.invariant-loop-state
invariant-loop-state l = All (λ q. get_or l.marks q false ≡ true) (take l.state-index l.states)
