use Rattle.std.proofs.Common.{ℕ, set, ap, ◌∙◌, arith}
use Rattle.fst_rational.specs.Labels.{labelled}
use Rattle.fst_rational.proofs.LabelledGiven.{change_ends, change_more, change_sized}
use Rattle.fst_rational.proofs.labels.LabellingArcsChange.change.Goals as goal

pub returns-clause-changed : goal.returns-clause-changed
returns-clause-changed g c = change_ends (labelled (g.R.Rules.reads c.args.self.now.rules) (g.R.Rules.writes c.args.self.now.rules)) c.args.arcs.now c.loop-place.arcs c.loop-place.place (omega arith) c.loop-place.invariant

pub returns-clause-size : goal.returns-clause-size
returns-clause-size g c = change_sized (labelled (g.R.Rules.reads c.args.self.now.rules) (g.R.Rules.writes c.args.self.now.rules)) c.args.arcs.now c.loop-place.arcs c.loop-place.place c.loop-place.invariant

pub loop-place-preserved : goal.loop-place-preserved
loop-place-preserved g c =
    let label = labelled {V = g.row.W.Denot} {N = ℕ} (g.R.Rules.reads c.args.self.now.rules) (g.R.Rules.writes c.args.self.now.rules) in
    ap (set c.loop-place.arcs c.loop-place.place) c.labelled_arc.ensures
    ∙ change_more label c.args.arcs.now c.loop-place.arcs c.loop-place.place c.index-arcs-place.result (omega arith) c.loop-place.invariant c.index-arcs-place.is
