use Rattle.std.proofs.lemmas.List.{take_rest}
use Rattle.fst_fields.proofs.Cuts.{fields_of-skipped, begins_field-skipped}
use Rattle.fst_fields.proofs.lines.skip_separators.Goals as goal

pub returns-clause-fields : goal.returns-clause-fields
returns-clause-fields c = rw (take_rest, c.separators-start.ensures.value) (fields_of-skipped c.args.line.now)

pub returns-clause-begins : goal.returns-clause-begins
returns-clause-begins c = rw (take_rest, c.separators-start.ensures.value) (begins_field-skipped c.args.line.now)
