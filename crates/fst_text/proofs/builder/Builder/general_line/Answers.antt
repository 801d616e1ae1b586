use Rattle.std.proofs.Common.{map, ap}
use Rattle.fst_fields.specs.Lines.{fields_of}
use Rattle.fst_text.proofs.Plain.{some-line}
use Rattle.fst_text.proofs.builder.Builder.general_line.Goals as goal

pub unreachable-requires : goal.unreachable-requires
unreachable-requires g c = some-line c.args.text.now c.requires.filled c.in-None.ensures.lines

pub returns-clause-read : goal.returns-clause-read
returns-clause-read g c = (fields_of c.in-Some.first.now, ap (map fields_of) c.in-Some.ensures.lines, c.in_ok-read-in-Some.ensures.read)
