use Rattle.std.proofs.Common.{◌≡◌, sym, subst}
use Rattle.std.proofs.lemmas.Result.{IfOk-weaker}
use Rattle.fst_machine.specs.Machine.{valued}
use Rattle.fst_rational.specs.Labels.{inverted}
use Rattle.fst_rational.specs.Relations.{Inverts}
use Rattle.fst_rational.proofs.Labelling.{inverted-Inverts}
use Rattle.fst_rational.proofs.labels.into_inverted.Goals as goal

pub returns-clause-relation : goal.returns-clause-relation
returns-clause-relation g c =
    let a = valued g.W.Weight.value c.args.a in
    IfOk-weaker c.with_labels_given.result (λ m. valued g.W.Weight.value m ≡ inverted a) (λ m. Inverts g.W.Weight.KIND a (valued g.W.Weight.value m)) (λ m e. subst (λ z. Inverts g.W.Weight.KIND a z) (sym e) (inverted-Inverts g.W.Weight.KIND a)) c.with_labels_given.ensures
