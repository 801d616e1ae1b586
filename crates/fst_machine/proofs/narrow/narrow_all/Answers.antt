use Rattle.std.proofs.Common.{◌≡◌}
use Rattle.fst_machine.specs.Machine.{valued}
use Rattle.fst_machine.proofs.Narrowing.{cause_exact, made_exact}
use Rattle.fst_machine.proofs.Valued.{IsMachine-same}
use Rattle.fst_machine.proofs.narrow.narrow_all.Goals as goal

pub into_machine-requires : goal.into_machine-requires
into_machine-requires g c =
    let same : valued g.W.Weight.value (record { start = c.start.result; states = c.in-Ok.list }) ≡ valued g.W.Weight.wide_value c.args.wide.now = λ i. record { start = c.start.ensures.value i; states = c.in-Ok.ensures.states i } in
    IsMachine-same g.W.Weight.value g.W.Weight.wide_value (record { start = c.start.result; states = c.in-Ok.list }) c.args.wide.now same c.in-Ok.ensures.machine

pub returns-in-Ok-clause-overflow : goal.returns-in-Ok-clause-overflow
returns-in-Ok-clause-overflow g c = made_exact (valued g.W.Weight.wide_value c.args.wide.now) c.into_machine.result c.in-Ok.ensures.fits

pub returns-in-Err-clause-overflow : goal.returns-in-Err-clause-overflow
returns-in-Err-clause-overflow g c = cause_exact (valued g.W.Weight.wide_value c.args.wide.now) c.in-Err.fault c.in-Err.ensures.fault
