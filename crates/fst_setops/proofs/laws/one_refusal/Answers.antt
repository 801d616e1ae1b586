use Rattle.fst_setops.proofs.OneAnswer.{one_difference, one_intersection}
use Rattle.fst_setops.proofs.laws.one_refusal.Goals as goal

pub returns-clause-intersection : goal.returns-clause-intersection
returns-clause-intersection c kind a b most f h one two = one_intersection a b kind most f h one two

pub returns-clause-difference : goal.returns-clause-difference
returns-clause-difference c kind a b most f h one two = one_difference a b kind most f h one two
