use Rattle.fst_setops.specs.Difference.{subtraction}
use Rattle.fst_setops.proofs.Answering.{fault_alone, machine_alone}
use Rattle.fst_setops.proofs.subtracting.walked.Goals as goal

pub returns-in-Ok-clause-exact : goal.returns-in-Ok-clause-exact
returns-in-Ok-clause-exact g c =
    machine_alone (subtraction g.W.Weight.value c.args.a.now c.args.b.now) c.args.max_states c.in-Ok.made c.in-Ok.made.fst (rw c.in-Ok.is at c.in_ok-made.ensures.exact)

pub returns-in-Err-clause-exact : goal.returns-in-Err-clause-exact
returns-in-Err-clause-exact g c =
    fault_alone (subtraction g.W.Weight.value c.args.a.now c.args.b.now) c.args.max_states c.in-Err.fault (rw c.in-Err.is at c.in_ok-made.ensures.exact)
