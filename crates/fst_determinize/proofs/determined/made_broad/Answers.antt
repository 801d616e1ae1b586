use Rattle.std.proofs.Common.{Err, sym, subst}
use Rattle.fst_determinize.specs.Answers.{IsExact}
use Rattle.fst_determinize.specs.declared.fault.DeterminizeFault.{DeterminizeFault}
use Rattle.fst_determinize.proofs.Answering.{made_exact, stopped_exact}
use Rattle.fst_determinize.proofs.determined.made_broad.Goals as goal

pub returns-in-Ok-Ok-clause-exact : goal.returns-in-Ok-Ok-clause-exact
returns-in-Ok-Ok-clause-exact g c =
    made_exact g.W.Weight.KIND g.W.Weight.value c.args.fst.now c.args.max_states c.requires.weighed.weighted c.requires.acceptor c.in-Ok-Ok.made _ (rw c.in-Ok-Ok.field-0-is at c.in-Ok-Ok.ensures.exact)

pub returns-in-Ok-Err-clause-exact : goal.returns-in-Ok-Err-clause-exact
returns-in-Ok-Err-clause-exact g c =
    subst (λ (fault : DeterminizeFault). IsExact g.W.Weight.KIND g.W.Weight.value c.args.fst.now c.args.max_states (Err fault)) (sym c.stopped.ensures)
    (stopped_exact g.W.Weight.KIND g.W.Weight.value c.args.fst.now c.args.max_states c.requires.weighed.weighted c.requires.acceptor c.in-Ok-Err.fault (rw c.in-Ok-Err.field-0-is at c.in-Ok-Err.ensures.exact))
