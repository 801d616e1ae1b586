use Rattle.std.proofs.Common.{◌<◌, length, sym, ◌∙◌, rules}
use Rattle.std.proofs.lemmas.List.{take_rest}
use Rattle.fst_fields.proofs.Cuts.{fields_of-first}
use Rattle.fst_fields.proofs.lines.next_field.Goals as goal

pub returns-clause-fields : goal.returns-clause-fields
returns-clause-fields c =
    let line = c.skip_separators-line.result.now in
    let filled : 0 < length line = search rules in
    let first = fields_of-first line (c.skip_separators-line.ensures.begins filled) in
    rw (take_rest, c.field_length-end.ensures.value) (sym c.skip_separators-line.ensures.fields ∙ first.0)
