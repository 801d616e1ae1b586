use Rattle.std.proofs.Common.{codes}
use Rattle.fst_verbs.specs.Causes.{misread}
use Rattle.fst_verbs.specs.Given.{codex_in}
use Rattle.fst_verbs.proofs.Refusing.{fails_read}
use Rattle.std.proofs.Common.{ap}
use Rattle.fst_codex.specs.Faults.{reason_of}
use Rattle.fst_codex.specs.Reading.{CodexFault, no_memory}
use Rattle.fst_any.specs.Typed.{codex_of_file}
use Rattle.fst_command.proofs.reading.read_codex.Goals as goal

pub returns-in-Err : goal.returns-in-Err
unfolding codex_in
returns-in-Err c = fails_read (λ fault. misread c.args.name.now (codes "byte") fault.offset (reason_of fault.kind)) no_memory c.in-Err.fault (codex_of_file c.args.content.now) c.not_codex.result c.in-Err.ensures c.not_codex.ensures.made (λ e. c.not_codex.ensures.memory (ap (λ (f : CodexFault). f.kind) e))
