use Rattle.std.proofs.Common.{◌≡◌, ◌++◌, take}
use Rattle.fst_search.proofs.cycle.push_along.Given as goal

abbrev pub invariant-loop-step : goal.invariant-loop-step
invariant-loop-step l = l.path ≡ l.fn.path ++ take l.step-index l.steps
