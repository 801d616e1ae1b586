use Rattle.fst_semiring.proofs.Texts.{weight-read}
use Rattle.fst_semiring.proofs.text_laws.printed_weight_reads_again.Goals as goal

pub returns : goal.returns
returns c = weight-read
