use Rattle.fst_fields.proofs.Decimals.{decimal-read}
use Rattle.fst_fields.proofs.laws.printed_decimal_reads_again.Goals as goal

pub returns : goal.returns
returns c = decimal-read
