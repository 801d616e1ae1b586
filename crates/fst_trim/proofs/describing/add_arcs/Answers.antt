use Rattle.std.proofs.Common.{◌≡◌, ◌≤◌, ◌+◌, ℕ, Bool, List, length, take, ap, ◌∙◌, arith}
use Rattle.std.specs.List.{count_by}
use Rattle.std.proofs.lemmas.List.{take_all}
use Rattle.fst_machine.specs.Machine.{Arc}
use Rattle.fst_trim.specs.Counted.{has_input_epsilon, has_output_epsilon, has_both_epsilons}
use Rattle.fst_trim.proofs.Epsilons.{test_more, test_few}
use Rattle.fst_trim.proofs.describing.add_arcs.Goals as goal

pub add_arc-epsilons-requires-clause-input : goal.add_arc-epsilons-requires-clause-input
add_arc-epsilons-requires-clause-input g c = let few = test_few has_input_epsilon c.args.arcs.now c.loop-arc.arc-index (omega arith) in omega (arith, c.loop-arc.invariant.input, c.requires.input)

pub add_arc-epsilons-requires-clause-output : goal.add_arc-epsilons-requires-clause-output
add_arc-epsilons-requires-clause-output g c = let few = test_few has_output_epsilon c.args.arcs.now c.loop-arc.arc-index (omega arith) in omega (arith, c.loop-arc.invariant.output, c.requires.output)

pub add_arc-epsilons-requires-clause-both : goal.add_arc-epsilons-requires-clause-both
add_arc-epsilons-requires-clause-both g c = let few = test_few has_both_epsilons c.args.arcs.now c.loop-arc.arc-index (omega arith) in omega (arith, c.loop-arc.invariant.both, c.requires.both)

pub loop-arc-preserved : goal.loop-arc-preserved
loop-arc-preserved g c =
    let arcs = c.args.arcs.now in
    let i = c.loop-arc.arc-index in
    let x = c.arc-item.result in
    let input = test_more has_input_epsilon arcs i x (omega arith) c.arc-item.is in
    let output = test_more has_output_epsilon arcs i x (omega arith) c.arc-item.is in
    let both = test_more has_both_epsilons arcs i x (omega arith) c.arc-item.is in
    record {
      input = omega (arith, input, c.add_arc-epsilons.ensures.input, c.loop-arc.invariant.input);
      output = omega (arith, output, c.add_arc-epsilons.ensures.output, c.loop-arc.invariant.output);
      both = omega (arith, both, c.add_arc-epsilons.ensures.both, c.loop-arc.invariant.both);
    }

-- all of them
all_tested : {V : Type 0} (test : Arc V ℕ → Bool) (arcs : List (Arc V ℕ)) (i before count : ℕ) → length arcs ≤ i → count ≡ before + count_by test (take i arcs) → count ≡ before + count_by test arcs
all_tested {V} test arcs i before count done e = e ∙ ap (λ (zs : List (Arc V ℕ)). before + count_by test zs) (take_all i arcs done)

pub returns : goal.returns
returns g c = record {
  input = all_tested has_input_epsilon c.args.arcs.now c.loop-arc.arc-index c.args.before.input c.loop-arc.epsilons.input (omega arith) c.loop-arc.invariant.input;
  output = all_tested has_output_epsilon c.args.arcs.now c.loop-arc.arc-index c.args.before.output c.loop-arc.epsilons.output (omega arith) c.loop-arc.invariant.output;
  both = all_tested has_both_epsilons c.args.arcs.now c.loop-arc.arc-index c.args.before.both c.loop-arc.epsilons.both (omega arith) c.loop-arc.invariant.both;
}
