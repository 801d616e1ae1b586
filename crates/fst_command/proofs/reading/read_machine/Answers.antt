use Rattle.std.proofs.Common.{codes}
use Rattle.fst_verbs.specs.Causes.{misread}
use Rattle.fst_verbs.specs.Given.{machine_in}
use Rattle.fst_verbs.proofs.Refusing.{fails_read}
use Rattle.std.proofs.Common.{ap}
use Rattle.fst_binary.specs.Faults.{reason_of}
use Rattle.fst_binary.specs.Reading.{BinaryFault, no_memory}
use Rattle.fst_any.specs.Typed.{machine_of_file}
use Rattle.fst_command.proofs.reading.read_machine.Goals as goal

pub returns-in-Err : goal.returns-in-Err
unfolding machine_in
returns-in-Err c = fails_read (λ fault. misread c.args.name.now (codes "byte") fault.offset (reason_of fault.kind)) no_memory c.in-Err.fault (machine_of_file c.args.content.now) c.not_binary.result c.in-Err.ensures c.not_binary.ensures.made (λ e. c.not_binary.ensures.memory (ap (λ (f : BinaryFault). f.kind) e))
