use Rattle.std.proofs.Common.{sym, subst}
use Rattle.fst_machine.specs.Machine.{Machine, valued}
use Rattle.fst_select.specs.Pruned.{IsPruned}
use Rattle.fst_select.proofs.PrunedPaths.{pruned_laws}
use Rattle.fst_select.proofs.ThinnedPaths.{nothing_pruned}
use Rattle.fst_select.proofs.pruning.prune.Goals as goal

pub returns-in-Ok-clause-keeps : goal.returns-in-Ok-clause-keeps
returns-in-Ok-clause-keeps g c is = pruned_laws g.W.Weight.KIND (g.W.Weight.value c.args.threshold) (valued g.W.Weight.value c.args.fst.now) (valued g.W.Weight.value c.in-Ok.pruned) is

pub returns-in-Ok-None-clause-pruned : goal.returns-in-Ok-None-clause-pruned
returns-in-Ok-None-clause-pruned g c =
    let w = g.W.Weight in
    subst (λ (n : Machine g.row.W.Denot). IsPruned w.KIND (w.value c.args.threshold) (valued w.value c.args.fst.now) (valued w.value n)) (sym c.new.ensures) (nothing_pruned w.KIND (w.value c.args.threshold) (valued w.value c.args.fst.now) (rw c.in-Ok-None.field-0-is at c.in-Ok-None.ensures.nothing))

pub returns-in-Ok-None-clause-keeps : goal.returns-in-Ok-None-clause-keeps
returns-in-Ok-None-clause-keeps g c is = pruned_laws g.W.Weight.KIND (g.W.Weight.value c.args.threshold) (valued g.W.Weight.value c.args.fst.now) (valued g.W.Weight.value c.new.result) is
