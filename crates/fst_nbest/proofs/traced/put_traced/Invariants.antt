use Rattle.std.proofs.Common.{◌≡◌, ◌++◌, map, take}
use Rattle.fst_machine.specs.Machine.{valued}
use Rattle.fst_machine.specs.Graph.{graph_of}
use Rattle.fst_machine.specs.Steps.{written}
use Rattle.fst_nbest.specs.FirstPaths.{traced}
use Rattle.fst_nbest.proofs.traced.put_traced.Given as goal

abbrev pub invariant-loop-i : goal.invariant-loop-i
invariant-loop-i g l = map written l.paths ≡ map written l.fn.paths ++ map (traced (graph_of (valued g.M.AsMachine.value (g.M.AsMachine.machine l.fst))) l.start) (take l.i l.words)
