use Rattle.fst_machine.specs.Machine.{valued}
use Rattle.fst_epsilon.proofs.Whole.{passes_ok}
use Rattle.fst_epsilon.proofs.removing.rmepsilon.Goals as goal

pub returns-in-Ok-clause-passes : goal.returns-in-Ok-clause-passes
returns-in-Ok-clause-passes g c = passes_ok g.W.Weight.KIND (valued g.W.Weight.value c.args.fst.now) (λ h. valued g.W.Weight.value h) c.in-Ok.made c.in-Ok.ensures.fine
