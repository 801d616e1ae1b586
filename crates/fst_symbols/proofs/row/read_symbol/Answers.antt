use Rattle.std.proofs.Common.{sym}
use Rattle.fst_symbols.proofs.Names.{row-name}
use Rattle.fst_symbols.proofs.row.read_symbol.Goals as goal

pub returns-in-Some-read_label-clause-name : goal.returns-in-Some-read_label-clause-name
returns-in-Some-read_label-clause-name c = row-name c.args.text.now c.in-Some-row.name.now c.in-Some-row.number.now c.requires (sym (rw c.in-Some-row.is at c.in-Some.ensures))
