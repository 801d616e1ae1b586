use Rattle.std.proofs.Common.{map}
use Rattle.fst_machine.specs.Graph.{graph_of}
use Rattle.fst_machine.specs.Machine.{valued}
use Rattle.fst_machine.specs.Steps.{written}
use Rattle.fst_nbest.proofs.WrittenWords.{first_walks}
use Rattle.fst_algebra_tests.proofs.shortest_paths.chained.Goals as goal

pub chains-requires : goal.chains-requires
chains-requires g c = record { listed = first_walks g.W.Weight.KIND (graph_of (valued g.W.Weight.value c.args.fst.now)) c.args.n (map written c.in-Ok.paths) c.in-Ok.ensures.first }
