use Rattle.std.proofs.Common.{◌≡◌, sym, subst}
use Rattle.std.proofs.lemmas.Result.{IfOk-weaker}
use Rattle.fst_machine.specs.Machine.{valued}
use Rattle.fst_rational.specs.Labels.{projected}
use Rattle.fst_rational.specs.Relations.{Projects}
use Rattle.fst_rational.proofs.Labelling.{projected-Projects}
use Rattle.fst_rational.proofs.labels.into_projected.Goals as goal

pub returns-clause-relation : goal.returns-clause-relation
returns-clause-relation g c =
    let a = valued g.W.Weight.value c.args.a in
    IfOk-weaker c.with_labels_given.result (λ m. valued g.W.Weight.value m ≡ projected c.args.output a) (λ m. Projects g.W.Weight.KIND c.args.output a (valued g.W.Weight.value m)) (λ m e. subst (λ z. Projects g.W.Weight.KIND c.args.output a z) (sym e) (projected-Projects g.W.Weight.KIND c.args.output a)) c.with_labels_given.ensures
