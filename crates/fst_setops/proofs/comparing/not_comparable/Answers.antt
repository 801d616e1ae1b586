use Rattle.std.proofs.Common.{◌∙◌, None, Some, sym}
use Rattle.fst_machine.specs.Machine.{valued}
use Rattle.fst_trim.specs.FirstArcs.{Repeats}
use Rattle.fst_trim.proofs.Valued.{repeats-valued}
use Rattle.fst_setops.proofs.Unweighing.{first_meets}
use Rattle.fst_setops.proofs.comparing.not_comparable.Goals as goal

pub returns-in-Some-not_deterministic_at : goal.returns-in-Some-not_deterministic_at
returns-in-Some-not_deterministic_at g c most =
    let value = g.W.Weight.value in
    let a = c.args.a.now in
    (c.in_default.ensures, first_meets Repeats Repeats a (valued value a) (repeats-valued value a) (Some c.in-Some-not_deterministic_at.step) c.in-Some-not_deterministic_at.ensures)

pub returns-in-Some-not_deterministic_at-2 : goal.returns-in-Some-not_deterministic_at-2
returns-in-Some-not_deterministic_at-2 g c most =
    let value = g.W.Weight.value in
    let a = c.args.a.now in
    let b = c.args.b.now in
    let first = first_meets Repeats Repeats a (valued value a) (repeats-valued value a) None c.in_default-not_deterministic_at.ensures in
    let second = first_meets Repeats Repeats b (valued value b) (repeats-valued value b) (Some c.in-Some-not_deterministic_at-2.step) c.in-Some-not_deterministic_at-2.ensures in
    (c.in_default.ensures, (first, second))

pub returns-then-CANCELS : goal.returns-then-CANCELS
returns-then-CANCELS g c =
    let value = g.W.Weight.value in
    let a = c.args.a.now in
    let b = c.args.b.now in (
      (
        c.in_default.ensures,
        first_meets Repeats Repeats a (valued value a) (repeats-valued value a) None c.in_default-not_deterministic_at.ensures,
        first_meets Repeats Repeats b (valued value b) (repeats-valued value b) None c.in_default-not_deterministic_at-2.ensures,
      ),
      sym g.met.W.Weight.cancels_by_kind ∙ (sym c.CANCELS.ensures ∙ c.if-CANCELS.true),
    )

pub returns : goal.returns
returns g c most =
    let value = g.W.Weight.value in
    let a = c.args.a.now in
    let b = c.args.b.now in (
      (
        c.in_default.ensures,
        first_meets Repeats Repeats a (valued value a) (repeats-valued value a) None c.in_default-not_deterministic_at.ensures,
        first_meets Repeats Repeats b (valued value b) (repeats-valued value b) None c.in_default-not_deterministic_at-2.ensures,
      ),
      sym g.met.W.Weight.cancels_by_kind ∙ (sym c.CANCELS.ensures ∙ c.if-CANCELS.false),
    )
