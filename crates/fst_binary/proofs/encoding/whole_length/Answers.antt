use Rattle.std.proofs.Common.{length, ap, arith}
use Rattle.fst_machine.specs.Machine.{valued}
use Rattle.fst_semiring.specs.Names.{name_of}
use Rattle.fst_binary.proofs.Encoded.{HasSpelling-valued}
use Rattle.fst_binary.proofs.Lengths.{spelling_length}
use Rattle.fst_binary.proofs.Numbered.{weights_of_machine}
use Rattle.fst_binary.proofs.encoding.whole_length.Goals as goal

pub states_length-requires : goal.states_length-requires
states_length-requires g c =
    let machine = c.states.ensures.machine in
    record {
      all = c.states.ensures.value;
      few_states = omega (arith, c.states.ensures.value, machine.few_states);
      few_arcs = machine.few_arcs;
      weights = weights_of_machine g.W.Weight.value (length c.args.fst.now.states) c.args.fst.now.states machine.arcs;
    }

pub returns-clause-value : goal.returns-clause-value
returns-clause-value g c =
    let whole = spelling_length g.W.Weight.KIND (valued g.W.Weight.value c.args.fst.now) c.args.tables.now in
    let name = ap (λ kind. length (name_of kind)) c.KIND.ensures in
    omega (arith, whole, name, c.header_length.ensures, c.tables_length.ensures.value, c.states_length.ensures.value)

pub returns-clause-fits : goal.returns-clause-fits
returns-clause-fits g c = HasSpelling-valued g.W.Weight.value g.W.Weight.KIND c.args.fst.now c.states.ensures.machine c.states_length.ensures.fits
