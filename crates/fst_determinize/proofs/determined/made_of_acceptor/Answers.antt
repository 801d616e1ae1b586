use Rattle.fst_determinize.proofs.Answering.{unfit_exact}
use Rattle.fst_determinize.proofs.determined.made_of_acceptor.Goals as goal

pub returns-in-Some-clause-exact : goal.returns-in-Some-clause-exact
returns-in-Some-clause-exact g c = unfit_exact g.W.Weight.KIND g.W.Weight.value c.args.fst.now c.args.max_states c.in-Some.step.state c.in-Some.step.place c.in-Some.ensures
