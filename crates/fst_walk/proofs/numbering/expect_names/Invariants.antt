use Rattle.std.proofs.Common.{◌≡◌}
use Rattle.fst_walk.proofs.numbering.expect_names.Given as goal

abbrev pub invariant-loop-arc : goal.invariant-loop-arc
invariant-loop-arc g l = l.names ≡ l.initial.names
