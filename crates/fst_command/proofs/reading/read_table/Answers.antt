use Rattle.std.proofs.Common.{codes}
use Rattle.fst_verbs.specs.Causes.{misread}
use Rattle.fst_verbs.specs.Given.{table_in}
use Rattle.fst_verbs.proofs.Refusing.{fails_read}
use Rattle.fst_symbols.specs.Faults.{line_of, reason_of}
use Rattle.fst_symbols.specs.Reading.{table_of_text}
use Rattle.fst_symbols.specs.declared.fault.SymbolsFault.TheVariants.{Memory}
use Rattle.fst_command.proofs.reading.read_table.Goals as goal

pub returns-in-Err : goal.returns-in-Err
unfolding table_in
returns-in-Err c = fails_read (λ fault. misread c.args.name.now (codes "line") (line_of fault) (reason_of fault)) Memory c.in-Err.fault (table_of_text c.args.content.now) c.not_symbols.result c.in-Err.ensures.read c.not_symbols.ensures.made c.not_symbols.ensures.memory
