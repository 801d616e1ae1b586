use Rattle.std.proofs.Common.{All, ◌≢◌, arith}
use Rattle.std.proofs.lemmas.List.{length-append}
use Rattle.std.proofs.lemmas.List.Elements.{All-append}
use Rattle.fst_semiring.specs.Cost.{infinite}
use Rattle.fst_machine.specs.Machine.{valued_state}
use Rattle.fst_binary.specs.Spelling.{HasFields, state_fields}
use Rattle.fst_binary.proofs.Numbered.{all_of_first, all_of_second}
use Rattle.fst_binary.proofs.Parts.{arcs_of_parts, length_of_parts}
use Rattle.fst_binary.proofs.encoding.parts_length.Goals as goal

pub states_length-requires : goal.states_length-requires
states_length-requires g c =
    let n = length-append c.args.first.now c.args.second.now in
    let arcs = arcs_of_parts c.args.first.now c.args.second.now in
    record {
      all = c.len.ensures;
      few_states = omega (arith, n, c.len.ensures, c.requires.few_states);
      few_arcs = omega (arith, arcs, c.requires.few_arcs);
      weights = all_of_first (λ s. All (λ a. g.W.Weight.value a.weight ≢ infinite) s.arcs) c.args.first.now c.args.second.now c.requires.weights;
    }

pub states_length-requires-2 : goal.states_length-requires-2
states_length-requires-2 g c =
    let n = length-append c.args.first.now c.args.second.now in
    let arcs = arcs_of_parts c.args.first.now c.args.second.now in
    record {
      all = c.len-2.ensures;
      few_states = omega (arith, n, c.len-2.ensures, c.requires.few_states);
      few_arcs = omega (arith, arcs, c.requires.few_arcs);
      weights = all_of_second (λ s. All (λ a. g.W.Weight.value a.weight ≢ infinite) s.arcs) c.args.first.now c.args.second.now c.requires.weights;
    }

pub returns-clause-value : goal.returns-clause-value
returns-clause-value g c =
    let all = length_of_parts (state_fields g.W.Weight.KIND) (valued_state g.W.Weight.value) c.args.first.now c.args.second.now in
    omega (arith, all, c.states_length.ensures.value, c.states_length-2.ensures.value)

pub returns-clause-bound : goal.returns-clause-bound
returns-clause-bound g c =
    let n = length-append c.args.first.now c.args.second.now in
    let arcs = arcs_of_parts c.args.first.now c.args.second.now in
    omega (arith, n, arcs, c.len.ensures, c.len-2.ensures, c.states_length.ensures.bound, c.states_length-2.ensures.bound, c.requires.few_states, c.requires.few_arcs)

pub returns-clause-fits : goal.returns-clause-fits
returns-clause-fits g c = All-append (HasFields g.W.Weight.value g.W.Weight.KIND) c.args.first.now c.args.second.now c.states_length.ensures.fits c.states_length-2.ensures.fits
