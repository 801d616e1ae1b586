use Rattle.fst_text.proofs.Describing.{compiles-back}
use Rattle.fst_text.proofs.laws.printed_machine_compiles_back.Goals as goal

pub returns : goal.returns
returns c = compiles-back
