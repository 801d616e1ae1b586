use Rattle.std.proofs.Common.{refl, sym, subst}
use Rattle.fst_machine.specs.Machine.{Machine, valued}
use Rattle.fst_machine.specs.Renumbered.{marked}
use Rattle.fst_trim.specs.KeptPaths.{IsConnectedOn}
use Rattle.fst_trim.proofs.Trimming.{finished}
use Rattle.fst_trim.proofs.connected.connect_marked.Goals as goal

pub into_machine-requires : goal.into_machine-requires
into_machine-requires g c =
    (finished g.W.Weight.value c.args.a.now (record { start = c.number_of_start-start.result; states = c.in_ok-states.states }) c.args.marks.now c.args.marks.now c.in_ok-numbers.numbers.items c.as_slice.result.now c.as_slice-2.result.now c.start.result c.states-states.ensures.machine refl c.requires.size c.requires.useful c.in_ok-numbers.ensures c.as_slice.ensures.value c.as_slice-2.ensures.value c.start.ensures.value c.number_of_start-start.ensures c.in_ok-states.ensures).machine

pub returns : goal.returns
returns g c =
    let f = finished g.W.Weight.value c.args.a.now (record { start = c.number_of_start-start.result; states = c.in_ok-states.states }) c.args.marks.now c.args.marks.now c.in_ok-numbers.numbers.items c.as_slice.result.now c.as_slice-2.result.now c.start.result c.states-states.ensures.machine refl c.requires.size c.requires.useful c.in_ok-numbers.ensures c.as_slice.ensures.value c.as_slice-2.ensures.value c.start.ensures.value c.number_of_start-start.ensures c.in_ok-states.ensures in
    subst (λ (n : Machine g.row.W.Denot). IsConnectedOn (valued g.W.Weight.value c.args.a.now) (valued g.W.Weight.value n) (marked 0 c.args.marks.now)) (sym c.into_machine.ensures) f.connected
