use Rattle.fst_trim.specs.Targets.{targets_from}
use Rattle.fst_trim.proofs.Joined.{IsJoining}
use Rattle.fst_trim.proofs.targets.targets_of.Given as goal

abbrev pub invariant-loop-state : goal.invariant-loop-state
invariant-loop-state g l = IsJoining (targets_from (g.M.AsMachine.machine l.fst).states) l.state l.firsts.items l.targets.items
