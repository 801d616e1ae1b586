use Rattle.std.proofs.Common.{None, Some}
use Rattle.fst_machine.specs.Machine.{valued}
use Rattle.fst_trim.specs.FirstArcs.{Repeats}
use Rattle.fst_trim.proofs.Valued.{repeats-valued}
use Rattle.fst_setops.specs.Unweighted.{ReadsEpsilon}
use Rattle.fst_setops.proofs.Unweighing.{epsilon-valued, first_meets}
use Rattle.fst_setops.proofs.subtracting.unfit.Goals as goal

pub returns-in-Some-not_deterministic_at : goal.returns-in-Some-not_deterministic_at
returns-in-Some-not_deterministic_at g c most =
    let value = g.W.Weight.value in
    let b = c.args.b.now in
    (c.in_default.ensures, first_meets Repeats Repeats b (valued value b) (repeats-valued value b) (Some c.in-Some-not_deterministic_at.step) c.in-Some-not_deterministic_at.ensures)

pub returns-in-Some-epsilon_at : goal.returns-in-Some-epsilon_at
returns-in-Some-epsilon_at g c most =
    let value = g.W.Weight.value in
    let b = c.args.b.now in (
      c.in_default.ensures,
      first_meets Repeats Repeats b (valued value b) (repeats-valued value b) None c.in_default-not_deterministic_at.ensures,
      first_meets ReadsEpsilon ReadsEpsilon b (valued value b) (epsilon-valued value b) (Some c.in-Some-epsilon_at.step) c.in-Some-epsilon_at.ensures,
    )

pub returns-in-Some-weighted_at : goal.returns-in-Some-weighted_at
returns-in-Some-weighted_at g c most =
    let value = g.W.Weight.value in
    let b = c.args.b.now in (
      c.in_default.ensures,
      first_meets Repeats Repeats b (valued value b) (repeats-valued value b) None c.in_default-not_deterministic_at.ensures,
      first_meets ReadsEpsilon ReadsEpsilon b (valued value b) (epsilon-valued value b) None c.in_default-epsilon_at.ensures,
      c.in-Some-weighted_at.ensures,
    )

pub returns : goal.returns
returns g c =
    let value = g.W.Weight.value in
    let b = c.args.b.now in
    record {
      acceptors = c.in_default.ensures;
      deterministic = first_meets Repeats Repeats b (valued value b) (repeats-valued value b) None c.in_default-not_deterministic_at.ensures;
      free = first_meets ReadsEpsilon ReadsEpsilon b (valued value b) (epsilon-valued value b) None c.in_default-epsilon_at.ensures;
      unweighted = c.in_default-weighted_at.ensures;
    }
