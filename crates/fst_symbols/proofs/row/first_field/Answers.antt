use Rattle.std.proofs.Common.{sym}
use Rattle.std.proofs.lemmas.List.{take_rest}
use Rattle.fst_fields.proofs.Cuts.{fields_of-first}
use Rattle.fst_symbols.proofs.row.first_field.Goals as goal

pub returns : goal.returns
returns c = rw (take_rest, c.name_length-end.ensures.value) (fields_of-first c.args.line.now (sym c.if-not-begins_field.ensures)).0
