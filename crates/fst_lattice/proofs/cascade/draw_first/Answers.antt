use Rattle.std.proofs.Common.{◌≡◌, ◌++◌, ◌∷◌, [], ◌<◌, ℕ, Some, length, ap, ◌∙◌, arith}
use Rattle.fst_lattice.specs.Cascade.{behind_arcs, first_arcs, first_end, first_size, first_states, letters, whole}
use Rattle.fst_lattice.specs.Draws.{drawn, next_state}
use Rattle.fst_lattice.proofs.Drawn.{first_arcs_good, first_end_done, first_end_more, first_state, first_states_done, first_states_more, made_more}
use Rattle.fst_lattice.proofs.cascade.draw_first.Goals as goal

pub push-requires : goal.push-requires
push-requires c =
    let inv = c.loop-state.invariant in
    let arcs = c.in_ok-draw_first_arcs.ensures.arcs in
    let good = first_arcs_good 26 c.loop-state.x 97 (omega arith) in
    let long : length c.as_slice.result.now ≡ 52 = ap length (c.as_slice.ensures.value ∙ arcs) ∙ good.1 in
    let low : c.loop-state._state < 500 = omega arith in
    omega (arith, long, inv.made.total, low)

pub loop-state-preserved : goal.loop-state-preserved
loop-state-preserved c =
    let inv = c.loop-state.invariant in
    let x : ℕ = c.loop-state.x in
    let low : c.loop-state._state < first_size = omega arith in
    let drew = c.in_ok-draw_first_arcs.ensures in
    let good = first_arcs_good 26 c.loop-state.x 97 (omega arith) in
    let arcs : c.as_slice.result.now ≡ first_arcs c.loop-state.x 97 letters = c.as_slice.ensures.value ∙ drew.arcs in
    let last : c.weight-last.result ≡ whole (drawn (behind_arcs c.loop-state.x) 0 5) = c.weight-last.ensures ∙ (ap whole c.draw.ensures.value ∙ ap (λ (y : ℕ). whole (drawn y 0 5)) drew.state) in
    let put : c.push.new.self ≡ c.loop-state.states ++ first_state c.loop-state.x ∷ [] =
    c.in_ok-push.ensures.ok ∙ (λ i. c.loop-state.states ++ record { final = last i; arcs = arcs i } ∷ []) in
    let state = c.draw.ensures.state ∙ ap (λ (y : ℕ). next_state y) drew.state in
    record {
      states = first_states_more first_size c.loop-state._state c.loop-state.x c.draw.new.x c.loop-state.states c.push.new.self (first_states c.args.x.now first_size) low put state inv.states;
      state = first_end_more first_size c.loop-state._state c.loop-state.x c.draw.new.x (first_end c.args.x.now first_size) low state inv.state;
      made = made_more 500 52 c.loop-state._state c.loop-state.states c.push.new.self (first_state c.loop-state.x) inv.made put good.0 good.1;
    }

pub returns-clause-machine : goal.returns-clause-machine
returns-clause-machine c =
    let states = first_states_done first_size c.loop-state._state c.loop-state.x c.loop-state.states (first_states c.args.x.now first_size) (omega arith) c.loop-state.invariant.states in
    c.into_machine.ensures ∙ (λ i. record { start = Some 0; states = states i })

pub returns-clause-state : goal.returns-clause-state
returns-clause-state c = first_end_done first_size c.loop-state._state c.loop-state.x (first_end c.args.x.now first_size) (omega arith) c.loop-state.invariant.state
