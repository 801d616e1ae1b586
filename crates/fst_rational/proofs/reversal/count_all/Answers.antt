use Rattle.std.proofs.Common.{◌≡◌, ◌+◌, drop, map, refl, replicate, sym, ◌∙◌, arith, ℕ}
use Rattle.std.proofs.lemmas.List.{length-map}
use Rattle.fst_machine.specs.Machine.{valued, valued_state}
use Rattle.fst_machine.proofs.ArcsReplaced.{arcs_of_machine}
use Rattle.fst_machine.proofs.Valued.{IsMachine-valued}
use Rattle.fst_rational.specs.Backing.{counted_back}
use Rattle.fst_rational.specs.Constructions.{reverse_of}
use Rattle.fst_rational.proofs.Backing.{base, length-reverse, put_all-reverse}
use Rattle.fst_rational.proofs.Counting.{base_counts, counting_few, counting_next, counting_size, counts_few}
use Rattle.fst_rational.proofs.reversal.count_all.Goals as goal

pub loop-state-init : goal.loop-state-init
loop-state-init g c =
    let value = g.W.Weight.value in
    let kind = g.W.Weight.KIND in
    let a = valued value c.args.a.now in
    let good = IsMachine-valued value c.args.a.now c.states-states.ensures.machine in
    let n = c.states-states.result in
    let zeros : c.in_ok-counts.counts.items ≡ replicate {A = ℕ} (n + 1) 0 = c.in_ok-counts.ensures.items_if_clones_equal (λ y e. e) in
    record {
      states = base kind a good;
      counted = base_counts kind a good n c.count_onward.result c.in_ok-counts.counts.items zeros (c.states-states.ensures.value ∙ sym (length-map c.args.a.now.states (valued_state value))) c.count_onward.ensures.count;
      becomes = put_all-reverse kind a good;
    }

pub count_arcs-requires-clause-within : goal.count_arcs-requires-clause-within
count_arcs-requires-clause-within g c =
    let value = g.W.Weight.value in
    let kind = g.W.Weight.KIND in
    let a = valued value c.args.a.now in
    let vs = map (valued_state value) c.args.a.now.states in
    let good = IsMachine-valued value c.args.a.now c.states-states.ensures.machine in
    let arcs = arcs_of_machine value c.args.a.now c.loop-state.state c.arcs.result.now c.states-states.ensures.machine c.arcs.ensures in
    let size = counting_size (c.loop-state.state + 1) (drop c.loop-state.state vs) (reverse_of kind a).states c.loop-state.counts.items c.loop-state.invariant in
    λ k d low. let here = arcs k d low in omega (arith, here.next, size, length-reverse kind a good, length-map c.args.a.now.states (valued_state value))

pub count_arcs-requires-clause-few : goal.count_arcs-requires-clause-few
count_arcs-requires-clause-few g c =
    let value = g.W.Weight.value in
    let a = valued value c.args.a.now in
    let vs = map (valued_state value) c.args.a.now.states in
    let whole = (reverse_of g.W.Weight.KIND a).states in
    let i = c.loop-state.state in
    let new = counted_back c.arcs.result.now c.loop-state.counts.items in
    let is = counting_next value c.args.a.now.states i c.arcs.result.now whole c.loop-state.counts.items new c.arcs.ensures c.loop-state.invariant refl in
    λ j. omega (arith, counting_few (i + 1 + 1) (drop (i + 1) vs) whole new j is, counts_few whole j, c.requires.arcs)

pub loop-state-preserved : goal.loop-state-preserved
loop-state-preserved g c =
    let value = g.W.Weight.value in
    let whole = (reverse_of g.W.Weight.KIND (valued value c.args.a.now)).states in
    counting_next value c.args.a.now.states c.loop-state.state c.arcs.result.now whole c.loop-state.counts.items c.count_arcs.new.counts.items c.arcs.ensures c.loop-state.invariant c.count_arcs.ensures
