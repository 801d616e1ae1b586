use Rattle.std.proofs.Common.{◌≡◌, ◌++◌, ◌∷◌, [], ◌<◌, Some, length, ap, ◌∙◌, arith}
use Rattle.fst_lattice.specs.Cascade.{letters, second_arcs, second_end, second_size, second_states}
use Rattle.fst_lattice.proofs.Drawn.{made_more, second_arcs_good, second_end_done, second_end_more, second_state, second_states_done, second_states_more}
use Rattle.fst_lattice.proofs.cascade.draw_second.Goals as goal

pub push-requires : goal.push-requires
push-requires c =
    let inv = c.loop-state.invariant in
    let arcs = c.in_ok-draw_second_arcs.ensures.arcs in
    let good = second_arcs_good 26 c.loop-state.x 97 (omega arith) in
    let long : length c.as_slice.result.now ≡ 26 = ap length (c.as_slice.ensures.value ∙ arcs) ∙ good.1 in
    let low : c.loop-state._state < 200 = omega arith in
    omega (arith, long, inv.made.total, low)

pub loop-state-preserved : goal.loop-state-preserved
loop-state-preserved c =
    let inv = c.loop-state.invariant in
    let low : c.loop-state._state < second_size = omega arith in
    let drew = c.in_ok-draw_second_arcs.ensures in
    let good = second_arcs_good 26 c.loop-state.x 97 (omega arith) in
    let arcs : c.as_slice.result.now ≡ second_arcs c.loop-state.x 97 letters = c.as_slice.ensures.value ∙ drew.arcs in
    let put : c.push.new.self ≡ c.loop-state.states ++ second_state c.loop-state.x ∷ [] =
    c.in_ok-push.ensures.ok ∙ (λ i. c.loop-state.states ++ record { final = c.weight.ensures i; arcs = arcs i } ∷ []) in
    record {
      states = second_states_more second_size c.loop-state._state c.loop-state.x c.draw_second_arcs.new.x c.loop-state.states c.push.new.self (second_states c.args.x.now second_size) low put drew.state inv.states;
      state = second_end_more second_size c.loop-state._state c.loop-state.x c.draw_second_arcs.new.x (second_end c.args.x.now second_size) low drew.state inv.state;
      made = made_more 200 26 c.loop-state._state c.loop-state.states c.push.new.self (second_state c.loop-state.x) inv.made put good.0 good.1;
    }

pub returns-clause-machine : goal.returns-clause-machine
returns-clause-machine c =
    let states = second_states_done second_size c.loop-state._state c.loop-state.x c.loop-state.states (second_states c.args.x.now second_size) (omega arith) c.loop-state.invariant.states in
    c.into_machine.ensures ∙ (λ i. record { start = Some 0; states = states i })

pub returns-clause-state : goal.returns-clause-state
returns-clause-state c = second_end_done second_size c.loop-state._state c.loop-state.x (second_end c.args.x.now second_size) (omega arith) c.loop-state.invariant.state
