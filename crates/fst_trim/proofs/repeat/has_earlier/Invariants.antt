use Rattle.fst_trim.specs.FirstArcs.{HasEarlier}
use Rattle.fst_trim.proofs.repeat.has_earlier.Given as goal

abbrev pub invariant-loop-earlier : goal.invariant-loop-earlier
invariant-loop-earlier g l = HasEarlier l.arcs l.earlier l.label → ⊥
