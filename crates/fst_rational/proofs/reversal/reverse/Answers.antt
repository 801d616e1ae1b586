use Rattle.fst_machine.specs.Machine.{valued}
use Rattle.fst_rational.specs.Relations.{Reverses}
use Rattle.fst_machine.proofs.Valued.{IsMachine-valued}
use Rattle.fst_rational.proofs.Made.{made}
use Rattle.fst_rational.proofs.Reversing.{reverse-Reverses}
use Rattle.fst_rational.proofs.reversal.reverse.Goals as goal

pub returns-clause-relation : goal.returns-clause-relation
returns-clause-relation g c =
    let value = g.W.Weight.value in
    let kind = g.W.Weight.KIND in
    let a = valued value c.args.a.now in
    made (valued value) (Reverses kind a) c.construct.result c.construct.ensures.machine (reverse-Reverses kind a (IsMachine-valued value c.args.a.now c.states-states.ensures.machine))
