use Rattle.std.proofs.Common.{inr}
use Rattle.fst_text.specs.Building.{built}
use Rattle.fst_text.proofs.Reading.{text-built, text-fails}
use Rattle.fst_text.proofs.compiling.compile.Goals as goal

pub returns-in-Ok-Ok : goal.returns-in-Ok-Ok
returns-in-Ok-Ok g c = rw c.into_machine.ensures (text-built g.W.Weight.KIND c.args.options.now c.args.bytes.now (built g.W.Weight.value c.in-Ok-Ok.builder) (rw c.in-Ok-Ok.field-0-is at c.in-Ok-Ok.ensures))

pub returns-in-Ok-Err : goal.returns-in-Ok-Err
returns-in-Ok-Err g c = inr (text-fails g.W.Weight.KIND c.args.options.now c.args.bytes.now c.in-Ok-Err.fault (rw c.in-Ok-Err.field-0-is at c.in-Ok-Err.ensures))
