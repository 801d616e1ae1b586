use Rattle.fst_bytes.proofs.Stopping.{gives_of}
use Rattle.fst_binary.specs.declared.fault.BinaryKind.TheVariants.{Memory}
use Rattle.fst_binary.specs.Seeing.{tabled_seen}
use Rattle.fst_binary.specs.Reading.{tabled_of_bytes}
use Rattle.fst_binary.proofs.decoding.read_whole.Goals as goal

pub returns-in-Err : goal.returns-in-Err
returns-in-Err g c = rw c.into_fault.ensures (gives_of Memory (λ t. tabled_seen {X = g.row.W-Wide.Denot} g.W.Weight.value t) c.in-Err.stopped (tabled_of_bytes g.W.Weight.KIND c.args.bytes.now) c.in-Err.ensures)
