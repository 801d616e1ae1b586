use Rattle.fst_binary.proofs.Machines.{prefix_free}
use Rattle.fst_binary.proofs.laws.no_spelling_goes_on.Goals as goal

pub returns : goal.returns
returns c = λ kind other properties t u rest has sided also tabled eight e. prefix_free kind other properties t u rest has sided also tabled eight e
