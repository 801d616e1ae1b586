use Rattle.fst_bytes.specs.Spelling.{long}
use Rattle.fst_bytes.proofs.Lengths.{length-long}
use Rattle.fst_binary.proofs.Machines.{tabled_again}
use Rattle.fst_binary.proofs.laws.spelling_is_read.Goals as goal

pub returns : goal.returns
returns c = λ kind m s has sided. tabled_again kind (long 3) m s has sided (length-long 3)
