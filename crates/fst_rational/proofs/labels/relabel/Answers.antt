use Rattle.std.proofs.Common.{◌≡◌, sym, subst}
use Rattle.std.proofs.lemmas.Result.{IfOk-weaker}
use Rattle.fst_machine.specs.Machine.{valued}
use Rattle.fst_rational.specs.Labels.{relabelled}
use Rattle.fst_rational.specs.Relations.{Relabels}
use Rattle.fst_rational.proofs.Labelling.{new_label-epsilon, new_label-range, relabelled-Relabels}
use Rattle.fst_rational.proofs.labels.relabel.Goals as goal

pub with_labels-requires : goal.with_labels-requires
with_labels-requires g c = λ i o one two. (new_label-range c.args.input.now i c.count.ensures.pairs.small one, new_label-range c.args.output.now o c.count-2.ensures.pairs.small two)

pub returns-clause-relation : goal.returns-clause-relation
returns-clause-relation g c =
    let a = valued g.W.Weight.value c.args.a.now in
    let reads = c.args.input.now in
    let writes = c.args.output.now in
    IfOk-weaker c.with_labels.result (λ m. valued g.W.Weight.value m ≡ relabelled reads writes a) (λ m. Relabels g.W.Weight.KIND reads writes a (valued g.W.Weight.value m))
    (λ m e. subst (λ z. Relabels g.W.Weight.KIND reads writes a z) (sym e) (relabelled-Relabels reads writes (new_label-epsilon reads c.count.ensures.pairs.labels) (new_label-epsilon writes c.count-2.ensures.pairs.labels) g.W.Weight.KIND a)) c.with_labels.ensures
