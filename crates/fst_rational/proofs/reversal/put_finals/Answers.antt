use Rattle.std.proofs.Common.{◌≡◌, ◌+◌, ◌≤◌, List, ℕ, drop, get_or, length, map, sym, ap, ◌∙◌, arith}
use Rattle.std.proofs.lemmas.List.{drop_all, length-append, length-map}
use Rattle.fst_semiring.specs.Cost.{Cost}
use Rattle.fst_machine.specs.Machine.{Arc, State, changed, valued_state}
use Rattle.fst_machine.specs.Continuing.{leaving}
use Rattle.fst_machine.specs.Placing.{arc_counts}
use Rattle.fst_rational.specs.Backing.{with_more}
use Rattle.fst_rational.specs.Constructions.{final_arcs}
use Rattle.fst_rational.proofs.Counting.{counts-valued, finals_here, first_more, with_both, with_none}
use Rattle.fst_rational.proofs.reversal.put_finals.Goals as goal

pub put_final-requires : goal.put_final-requires
put_final-requires g c =
    let value = g.W.Weight.value in
    let i = c.loop-state.state in
    let vs = map (valued_state value) c.args.a.now.states in
    let here = finals_here value c.args.a.now.states i c.final_weight.result c.final_weight.ensures in
    let own = leaving (value c.final_weight.result) (i + 1) in
    let rest = final_arcs (i + 1 + 1) (drop (i + 1) vs) in
    omega (arith, c.loop-state.invariant.room, ap length here, length-append own rest)

pub loop-state-preserved : goal.loop-state-preserved
loop-state-preserved g c =
    let value = g.W.Weight.value in
    let i = c.loop-state.state in
    let vs = map (valued_state value) c.args.a.now.states in
    let here = finals_here value c.args.a.now.states i c.final_weight.result c.final_weight.ensures in
    let own = leaving (value c.final_weight.result) (i + 1) in
    let rest = final_arcs (i + 1 + 1) (drop (i + 1) vs) in
    let old = map (valued_state value) c.loop-state.states.states in
    let new = c.put_final.new.states.states in
    let counts : get_or (arc_counts new) 0 0 ≡ get_or (arc_counts (changed (with_more own) old 0)) 0 0 =
    ap (λ ns. get_or ns 0 0) (sym (counts-valued value new) ∙ ap (λ (ss : List (State Cost)). arc_counts ss) c.put_final.ensures.states) in
    let before : get_or (arc_counts old) 0 0 ≡ get_or (arc_counts c.loop-state.states.states) 0 0 = ap (λ ns. get_or ns 0 0) (counts-valued value c.loop-state.states.states) in
    let rooms = ap (λ ns. get_or ns 0 0) c.put_final.ensures.rooms in
    record {
      states = ap (λ (ss : List (State Cost)). changed (with_more rest) ss 0) c.put_final.ensures.states
          ∙ (with_both own rest old ∙ (ap (λ (xs : List (Arc Cost ℕ)). changed (with_more xs) old 0) (sym here) ∙ c.loop-state.invariant.states));
      room = omega (arith, c.loop-state.invariant.room, ap length here, length-append own rest, counts, before, first_more own old, rooms);
      rooms = c.put_final.ensures.rooms ∙ c.loop-state.invariant.rooms;
      left = c.put_final.ensures.left ∙ c.loop-state.invariant.left;
    }

pub returns-clause-states : goal.returns-clause-states
returns-clause-states g c =
    let value = g.W.Weight.value in
    let i = c.loop-state.state in
    let vs = map (valued_state value) c.args.a.now.states in
    let now = map (valued_state value) c.loop-state.states.states in
    let past : length vs ≤ i = omega (arith, length-map c.args.a.now.states (valued_state value), c.loop-state-test.false, c.states-state-end.ensures.value) in
    with_none now ∙ (ap (λ (ss : List (State Cost)). changed (with_more (final_arcs (i + 1) ss)) now 0) (sym (drop_all i vs past)) ∙ c.loop-state.invariant.states)
