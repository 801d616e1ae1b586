use Rattle.std.proofs.Common.{None, Some}
use Rattle.fst_machine.specs.Machine.{valued}
use Rattle.fst_trim.specs.FirstArcs.{HasTwoLabels}
use Rattle.fst_trim.proofs.Valued.{two_labels-valued}
use Rattle.fst_setops.proofs.Unweighing.{first_meets}
use Rattle.fst_setops.proofs.acceptors.split_at.Goals as goal

pub returns-in-Some : goal.returns-in-Some
returns-in-Some g c =
    let value = g.W.Weight.value in
    first_meets HasTwoLabels HasTwoLabels c.args.a.now (valued value c.args.a.now) (two_labels-valued value c.args.a.now) (Some c.in-Some.step) c.in-Some.ensures

pub returns-in-Some-not_acceptor_at : goal.returns-in-Some-not_acceptor_at
returns-in-Some-not_acceptor_at g c =
    let value = g.W.Weight.value in (
      first_meets HasTwoLabels HasTwoLabels c.args.a.now (valued value c.args.a.now) (two_labels-valued value c.args.a.now) None c.in_default.ensures,
      first_meets HasTwoLabels HasTwoLabels c.args.b.now (valued value c.args.b.now) (two_labels-valued value c.args.b.now) (Some c.in-Some-not_acceptor_at.step) c.in-Some-not_acceptor_at.ensures,
    )

pub returns : goal.returns
returns g c =
    let value = g.W.Weight.value in (
      first_meets HasTwoLabels HasTwoLabels c.args.a.now (valued value c.args.a.now) (two_labels-valued value c.args.a.now) None c.in_default.ensures,
      first_meets HasTwoLabels HasTwoLabels c.args.b.now (valued value c.args.b.now) (two_labels-valued value c.args.b.now) None c.in_default-not_acceptor_at.ensures,
    )
