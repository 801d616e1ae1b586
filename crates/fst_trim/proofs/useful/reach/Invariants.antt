use Rattle.std.proofs.Common.{◌-◌, length}
use Rattle.fst_machine.specs.Machine.{valued}
use Rattle.fst_machine.specs.Graph.{graph_of}
use Rattle.fst_machine.specs.Walking.{IsMarkedWalk}
use Rattle.fst_trim.proofs.useful.reach.Given as goal

abbrev pub invariant-loop-taken : goal.invariant-loop-taken
invariant-loop-taken g l = IsMarkedWalk (graph_of (valued g.M.AsMachine.value (g.M.AsMachine.machine l.fst))) l.start l.seen.items l.names.items l.taken (length (g.M.AsMachine.machine l.fst).states)

abbrev pub decreases-loop-taken : goal.decreases-loop-taken
decreases-loop-taken g l = length (g.M.AsMachine.machine l.fst).states - l.taken
