use Rattle.std.proofs.Common.{Err, sym, subst}
use Rattle.fst_machine.specs.Machine.{valued}
use Rattle.fst_compose.specs.Answers.{IsExact}
use Rattle.fst_compose.specs.declared.fault.ComposeFault.{ComposeFault}
use Rattle.fst_compose.proofs.Answering.{IsSorted-valued, made_exact, ordered_sorted, stopped_exact, unsorted_exact}
use Rattle.fst_compose.proofs.composing.composed.Goals as goal

pub returns-in_default-clause-exact : goal.returns-in_default-clause-exact
returns-in_default-clause-exact g c =
    let value = g.W.Weight.value in
    unsorted_exact g.W.Weight.KIND (valued value c.args.a.now) (valued value c.args.b.now) c.args.max_states (λ s. c.in_default.ensures ((IsSorted-valued value c.args.a.now c.args.b.now).1 s))

pub returns-in-Ok-clause-exact : goal.returns-in-Ok-clause-exact
returns-in-Ok-clause-exact g c =
    let value = g.W.Weight.value in
    let sorted = (IsSorted-valued value c.args.a.now c.args.b.now).0 (ordered_sorted c.in-Some.ordered c.args.a.now c.args.b.now c.in-Some.ensures) in
    made_exact g.W.Weight.KIND (valued value c.args.a.now) (valued value c.args.b.now) c.args.max_states sorted c.in-Ok.made c.in-Ok.made (rw c.in-Ok.is at c.in_ok-made.ensures.exact)

pub returns-in-Err-clause-exact : goal.returns-in-Err-clause-exact
returns-in-Err-clause-exact g c =
    let value = g.W.Weight.value in
    let sorted = (IsSorted-valued value c.args.a.now c.args.b.now).0 (ordered_sorted c.in-Some.ordered c.args.a.now c.args.b.now c.in-Some.ensures) in
    subst (λ (fault : ComposeFault). IsExact g.W.Weight.KIND (valued value c.args.a.now) (valued value c.args.b.now) c.args.max_states (Err fault)) (sym c.stopped.ensures)
    (stopped_exact g.W.Weight.KIND (valued value c.args.a.now) (valued value c.args.b.now) c.args.max_states sorted c.in-Err.fault (rw c.in-Err.is at c.in_ok-made.ensures.exact))
