use Rattle.std.proofs.Common.{◌+◌, List, drop, get_or, map, refl, ap, ◌∙◌, arith}
use Rattle.fst_semiring.specs.Cost.{Cost}
use Rattle.fst_machine.specs.Machine.{State, valued_arc, valued_state}
use Rattle.fst_machine.specs.Placing.{arc_counts}
use Rattle.fst_rational.specs.Backing.{put_all, put_back}
use Rattle.fst_rational.proofs.Backing.{all_step}
use Rattle.fst_rational.proofs.Counting.{put_all_up}
use Rattle.fst_rational.proofs.reversal.put_all_back.Goals as goal

pub put_arcs_back-requires-clause-room : goal.put_arcs_back-requires-clause-room
put_arcs_back-requires-clause-room g c =
    let value = g.W.Weight.value in
    let i = c.loop-state.state in
    let vs = map (valued_state value) c.args.a.now.states in
    let old = map (valued_state value) c.loop-state.states.states in
    let new = put_back (i + 1) (map (valued_arc value) c.arcs.result.now) old in
    let whole = put_all 1 vs (map (valued_state value) c.args.states.now.states) in
    let next = all_step value c.args.a.now.states i c.arcs.result.now c.arcs.ensures old new whole c.loop-state.invariant.states refl in
    λ j. omega (arith, put_all_up (i + 1 + 1) (drop (i + 1) vs) new j, ap (λ (ss : List (State Cost)). get_or (arc_counts ss) j 0) next, c.requires.room j, ap (λ ns. get_or ns j 0) c.loop-state.invariant.rooms)

pub loop-state-preserved : goal.loop-state-preserved
loop-state-preserved g c =
    let value = g.W.Weight.value in
    record {
      states = all_step value c.args.a.now.states c.loop-state.state c.arcs.result.now c.arcs.ensures (map (valued_state value) c.loop-state.states.states) (map (valued_state value) c.put_arcs_back.new.states.states) _ c.loop-state.invariant.states c.put_arcs_back.ensures.states;
      size = c.put_arcs_back.ensures.size ∙ c.loop-state.invariant.size;
      rooms = c.put_arcs_back.ensures.rooms ∙ c.loop-state.invariant.rooms;
      left = c.put_arcs_back.ensures.left ∙ c.loop-state.invariant.left;
    }
