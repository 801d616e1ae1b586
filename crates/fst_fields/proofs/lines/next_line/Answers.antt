use Rattle.std.proofs.Common.{◌<◌, length, rules, arith}
use Rattle.std.proofs.lemmas.List.{take_rest}
use Rattle.fst_fields.proofs.Cuts.{lines_of-first, lines_of-last}
use Rattle.fst_fields.proofs.lines.next_line.Goals as goal

pub returns-then-end-text-clause-lines : goal.returns-then-end-text-clause-lines
returns-then-end-text-clause-lines c = rw take_rest (lines_of-first c.args.text.now (omega arith) c.line_length-end.result c.line_length-end.ensures.value)

pub returns-else-end-text-clause-lines : goal.returns-else-end-text-clause-lines
returns-else-end-text-clause-lines c =
    let filled : 0 < length c.args.text.now = search rules in
    rw take_rest (lines_of-last c.args.text.now filled c.line_length-end.result c.line_length-end.ensures.value (omega arith))
