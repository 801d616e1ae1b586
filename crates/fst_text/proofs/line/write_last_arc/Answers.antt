use Rattle.std.proofs.Common.{arith, ◌∙◌, ◌∷◌, ◌++◌, []}
use Rattle.std.specs.Fmt.{decimal}
use Rattle.fst_machine.specs.Machine.{valued_arc}
use Rattle.fst_text.specs.Printed.{behind_tabs, label_fields}
use Rattle.fst_text.proofs.Digits.{line_end}
use Rattle.fst_text.proofs.line.write_last_arc.Goals as goal

pub returns-clause-written : goal.returns-clause-written
returns-clause-written g c = c.write_arc.ensures.written ∙ line_end (decimal c.args.state ++ behind_tabs (decimal c.args.arc.now.next ∷ []) ++ behind_tabs (label_fields c.args.options.now (valued_arc g.W.Weight.value c.args.arc.now))) c.args.line.now (omega arith)
