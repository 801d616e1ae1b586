use Rattle.fst_minimize.proofs.Stable.{stable_law, behaviour_laws}
use Rattle.fst_minimize.proofs.laws.behaviour_laws.Goals as goal

pub returns-clause-stable : goal.returns-clause-stable
returns-clause-stable g c = λ one two. stable_law one two g.N.Names.tied

pub returns-clause-alike : goal.returns-clause-alike
returns-clause-alike g c = λ kind one two. behaviour_laws kind one two
