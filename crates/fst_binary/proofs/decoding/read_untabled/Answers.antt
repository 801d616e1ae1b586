use Rattle.fst_binary.specs.Seeing.{tabled_seen}
use Rattle.fst_binary.proofs.Decoded.{machine_alone, machine_fails}
use Rattle.fst_binary.proofs.decoding.read_untabled.Goals as goal

pub returns-in-Ok : goal.returns-in-Ok
returns-in-Ok g c = machine_alone g.W.Weight.KIND c.args.bytes.now (tabled_seen g.W.Weight.value c.in-Ok.tabled) c.in-Ok.ensures

pub returns-in-Err : goal.returns-in-Err
returns-in-Err g c = machine_fails g.W.Weight.KIND c.args.bytes.now c.in-Err.fault c.in-Err.ensures
