use Rattle.fst_walk.proofs.OneAnswer.{no_stop, one_named, one_stop}
use Rattle.fst_walk.proofs.laws.one_answer.Goals as goal

pub returns-clause-stops : goal.returns-clause-stops
returns-clause-stops g c = λ graph. one_stop graph

pub returns-clause-fine : goal.returns-clause-fine
returns-clause-fine g c = λ graph. no_stop graph

pub returns-clause-named : goal.returns-clause-named
returns-clause-named g c = λ graph. one_named graph
