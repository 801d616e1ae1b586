use Rattle.fst_compose.specs.Composition.{composed}
use Rattle.fst_compose.proofs.Theorem.{composed_is, composition_of_nothing}
use Rattle.fst_walk.proofs.Numbered.{nothing_numbered}
use Rattle.fst_compose.proofs.Through.{composition_of}
use Rattle.fst_compose.proofs.laws.composition_laws.Goals as goal

pub returns-clause-graph : goal.returns-clause-graph
returns-clause-graph g c = λ kind a b. composed_is kind a b

pub returns-clause-machine : goal.returns-clause-machine
returns-clause-machine g c = λ kind a b names m h. composition_of kind a b names m h

pub returns-clause-no_names : goal.returns-clause-no_names
returns-clause-no_names g c = λ kind a b none. nothing_numbered (composed kind a b) none

pub returns-clause-nothing : goal.returns-clause-nothing
returns-clause-nothing g c = λ kind a b none. composition_of_nothing kind a b none
