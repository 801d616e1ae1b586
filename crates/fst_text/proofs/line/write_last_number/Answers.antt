use Rattle.std.proofs.Common.{arith, ◌∙◌}
use Rattle.std.specs.Fmt.{decimal}
use Rattle.fst_text.proofs.Digits.{line_end}
use Rattle.fst_text.proofs.line.write_last_number.Goals as goal

pub returns-clause-written : goal.returns-clause-written
returns-clause-written c = c.write_number.ensures.written ∙ line_end (decimal c.args.number) c.args.line.now (omega arith)
