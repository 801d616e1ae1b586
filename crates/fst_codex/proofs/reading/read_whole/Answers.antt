use Rattle.fst_bytes.proofs.Stopping.{gives_of}
use Rattle.fst_codex.specs.declared.fault.CodexKind.TheVariants.{Memory}
use Rattle.fst_codex.specs.Reading.{codex_of_bytes}
use Rattle.fst_codex.specs.Table.{valued_table}
use Rattle.fst_codex.proofs.reading.read_whole.Goals as goal

pub returns-in-Err : goal.returns-in-Err
returns-in-Err g c = rw c.into_fault.ensures (gives_of Memory (λ t. valued_table g.W.Weight.value t) c.in-Err.stopped (codex_of_bytes g.W.Weight.KIND c.args.bytes.now) c.in-Err.ensures)
