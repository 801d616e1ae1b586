use Rattle.fst_machine.specs.Graph.{graph_of}
use Rattle.fst_setops.specs.Subtracting.{NumberedParts}
use Rattle.fst_setops.proofs.Lifting.{subtracts}
use Rattle.fst_setops.proofs.Numbered.{numbered_subtracts}
use Rattle.fst_setops.proofs.Remaining.{remaining}
use Rattle.fst_setops.proofs.Through.{connected_subtracts}
use Rattle.fst_setops.proofs.laws.difference_laws.Goals as goal

pub returns-clause-graph : goal.returns-clause-graph
returns-clause-graph g c kind a b single free = subtracts a b kind single free

pub returns-clause-machine : goal.returns-clause-machine
returns-clause-machine g c kind a b names m single free h = numbered_subtracts a b names kind single free m h

pub returns-clause-connected : goal.returns-clause-connected
returns-clause-connected g c kind a b names whole trim kept is keeps = connected_subtracts kind a b names whole trim kept is keeps

pub returns-clause-relation : goal.returns-clause-relation
returns-clause-relation g c kind a b names m is x z w = remaining kind a b (graph_of m) (NumberedParts names) is x z w
