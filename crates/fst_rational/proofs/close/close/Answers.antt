use Rattle.fst_machine.specs.Machine.{valued}
use Rattle.fst_rational.specs.Handed.{machine_of}
use Rattle.fst_rational.specs.Relations.{Closes}
use Rattle.fst_rational.proofs.Closing.{closure-Closes}
use Rattle.fst_rational.proofs.Made.{made}
use Rattle.fst_rational.proofs.Putting.{same_good}
use Rattle.fst_rational.proofs.close.close.Goals as goal

pub returns-clause-relation : goal.returns-clause-relation
returns-clause-relation g c =
    let value = g.W.Weight.value in
    let kind = g.W.Weight.KIND in
    let a = machine_of c.args.a in
    let good = same_good value c.fst.ensures c.states-states.ensures.machine in
    made (valued value) (Closes kind c.args.plus.now (valued value a)) c.construct.result c.construct.ensures.machine (closure-Closes kind (valued value a) good c.args.plus.now)
