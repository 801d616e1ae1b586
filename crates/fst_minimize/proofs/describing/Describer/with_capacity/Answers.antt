use Rattle.std.proofs.Common.{[], ap, length}
use Rattle.fst_minimize.proofs.Describe.{described_none}
use Rattle.fst_minimize.proofs.describing.Describer.with_capacity.Goals as goal

pub returns-clause-described : goal.returns-clause-described
returns-clause-described c = λ g. ([], [], described_none g c.new-3.result c.in_ok-with_capacity-2.field-0 (ap length c.new-3.ensures) c.in_ok-with_capacity-2.ensures, c.in_ok-with_capacity.ensures)
