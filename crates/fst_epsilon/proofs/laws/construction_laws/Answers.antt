use Rattle.fst_epsilon.proofs.Exact.{removed_removes}
use Rattle.fst_epsilon.proofs.Theorem.{same_weights}
use Rattle.fst_machine.specs.Cycles.{IsAccessible}
use Rattle.fst_epsilon.proofs.laws.construction_laws.Goals as goal

pub returns : goal.returns
returns c kind g h solid r = (removed_removes kind g h solid r, same_weights kind g h (IsAccessible g) (removed_removes kind g h solid r))
