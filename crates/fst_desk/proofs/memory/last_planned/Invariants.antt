use Rattle.std.proofs.Common.{◌≡◌, None, nat_eq, drop}
use Rattle.fst_desk.specs.Kept.{last_of}
use Rattle.fst_desk.proofs.memory.last_planned.Given as goal

-- what is found so far and the rest of the plan give what the whole plan gives
abbrev pub invariant-loop-planned : goal.invariant-loop-planned
invariant-loop-planned l = last_of nat_eq l.found (drop l.planned-index l.plan) l.call ≡ last_of nat_eq None l.plan l.call
