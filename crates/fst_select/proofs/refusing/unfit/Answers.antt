use Rattle.std.proofs.Common.{None, Some}
use Rattle.fst_machine.specs.Machine.{valued}
use Rattle.fst_trim.specs.FirstArcs.{HasTwoLabels, IsAcceptor}
use Rattle.fst_trim.proofs.Valued.{two_labels-valued}
use Rattle.fst_setops.specs.Answers.{IsFree}
use Rattle.fst_setops.specs.Unweighted.{ReadsEpsilon}
use Rattle.fst_setops.proofs.Machines.{accepts, epsilon_free}
use Rattle.fst_setops.proofs.Unweighing.{epsilon-valued, first_meets}
use Rattle.fst_select.proofs.refusing.unfit.Goals as goal

pub returns-in-Some-clause-some : goal.returns-in-Some-clause-some
returns-in-Some-clause-some g c =
    let value = g.W.Weight.value in
    let m = c.args.fst.now in
    first_meets HasTwoLabels HasTwoLabels m (valued value m) (two_labels-valued value m) (Some c.in-Some.step) c.in-Some.ensures

pub returns-in-Some-epsilon_at-clause-some : goal.returns-in-Some-epsilon_at-clause-some
returns-in-Some-epsilon_at-clause-some g c =
    let value = g.W.Weight.value in
    let m = c.args.fst.now in (
      first_meets HasTwoLabels HasTwoLabels m (valued value m) (two_labels-valued value m) None c.in_default.ensures,
      first_meets ReadsEpsilon ReadsEpsilon m (valued value m) (epsilon-valued value m) (Some c.in-Some-epsilon_at.step) c.in-Some-epsilon_at.ensures,
    )

pub returns-clause-none : goal.returns-clause-none
returns-clause-none g c =
    let value = g.W.Weight.value in
    let m = c.args.fst.now in (
      first_meets HasTwoLabels HasTwoLabels m (valued value m) (two_labels-valued value m) None c.in_default.ensures,
      first_meets ReadsEpsilon ReadsEpsilon m (valued value m) (epsilon-valued value m) None c.in_default-epsilon_at.ensures,
    )

pub returns-clause-plain : goal.returns-clause-plain
returns-clause-plain g c =
    let value = g.W.Weight.value in
    let m = c.args.fst.now in
    let acceptor : IsAcceptor (valued value m) = first_meets HasTwoLabels HasTwoLabels m (valued value m) (two_labels-valued value m) None c.in_default.ensures in
    let free : IsFree (valued value m) = first_meets ReadsEpsilon ReadsEpsilon m (valued value m) (epsilon-valued value m) None c.in_default-epsilon_at.ensures in
    (accepts (valued value m) acceptor, epsilon_free (valued value m) free)
