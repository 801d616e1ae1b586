use Rattle.fst_verbs.proofs.Making.{AreTold}
use Rattle.fst_verbs.proofs.commands.making.totals_of.Given as goal

abbrev pub invariant-loop-place : goal.invariant-loop-place
invariant-loop-place l = AreTold l.answers l.place l.answered l.weights
