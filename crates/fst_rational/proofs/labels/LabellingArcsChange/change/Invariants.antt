use Rattle.std.proofs.Common.{◌≡◌, ◌++◌, map, take, drop}
use Rattle.fst_rational.specs.Labels.{labelled}
use Rattle.fst_rational.proofs.labels.LabellingArcsChange.change.Given as goal

abbrev pub invariant-loop-place : goal.invariant-loop-place
invariant-loop-place g l = l.arcs ≡ map (labelled (g.R.Rules.reads l.self.rules) (g.R.Rules.writes l.self.rules)) (take l.place l.fn.arcs) ++ drop l.place l.fn.arcs
