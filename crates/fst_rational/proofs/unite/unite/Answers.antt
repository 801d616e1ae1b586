use Rattle.fst_machine.specs.Machine.{valued}
use Rattle.fst_rational.specs.Relations.{Unites}
use Rattle.fst_rational.proofs.Uniting.{union-Unites}
use Rattle.fst_rational.proofs.Made.{made}
use Rattle.fst_rational.proofs.Putting.{same_good}
use Rattle.fst_rational.proofs.unite.unite.Goals as goal

pub returns-clause-relation : goal.returns-clause-relation
returns-clause-relation g c =
    let value = g.W.Weight.value in
    let kind = g.W.Weight.KIND in
    let one = g.P.Operands.one c.args.pair in
    let two = g.P.Operands.two c.args.pair in
    let good = same_good value c.first.ensures c.states.ensures.machine in
    let fine = same_good value c.second.ensures c.states-2.ensures.machine in
    made g.P.Operands.seen (Unites kind (valued value one) (valued value two)) c.construct.result c.construct.ensures.machine (union-Unites kind (valued value one) (valued value two) good fine)
