use Rattle.std.proofs.Common.{◌≡◌, map, subst}
use Rattle.std.specs.Prelude.{IfOk, Result}
use Rattle.fst_machine.specs.ArcsChanged.{IsArcsChanged}
use Rattle.fst_machine.specs.Machine.{Machine}
use Rattle.fst_rational.specs.Labels.{labelled}
use Rattle.fst_rational.proofs.LabelledGiven.{labelled_arcs, labelled_given}
use Rattle.fst_rational.proofs.labels.with_labels_given.Goals as goal

pub with_arcs-requires : goal.with_arcs-requires
with_arcs-requires g c = labelled_arcs (g.R.Rules.reads c.args.rules) (g.R.Rules.writes c.args.rules) g.W.Weight.value c.requires

pub returns-in-Ok : goal.returns-in-Ok
returns-in-Ok g c =
    let reads = g.R.Rules.reads c.args.rules in
    let writes = g.R.Rules.writes c.args.rules in
    labelled_given reads writes g.W.Weight.value c.args.a c.in-Ok.machine
    (subst (λ (r : Result (Machine g.row.W.Denot) (Machine g.row.W.Denot)). IfOk r (λ m. IsArcsChanged (λ arcs new. new ≡ map (labelled reads writes) arcs) c.args.a m)) c.in-Ok.is c.in_ok-machine.ensures.changed)
