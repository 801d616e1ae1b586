use Rattle.fst_select.proofs.OnePruned.{one_pruned}
use Rattle.fst_select.proofs.PrunedPaths.{pruned_laws}
use Rattle.fst_select.proofs.laws.pruned_laws.Goals as goal

pub returns-clause-paths : goal.returns-clause-paths
returns-clause-paths c = λ kind threshold m p is. pruned_laws kind threshold m p is

pub returns-clause-one : goal.returns-clause-one
returns-clause-one c = λ kind threshold m p q one two. one_pruned kind threshold m p q one two
