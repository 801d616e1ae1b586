use Rattle.std.proofs.Common.{◌≤◌, ◌<◌, List, length, map, sym, ap, subst, arith}
use Rattle.std.specs.List.{All}
use Rattle.fst_machine.specs.Machine.{IsArc, State, most_states, valued_state}
use Rattle.fst_rational.specs.Changing.{goings}
use Rattle.fst_rational.specs.Constructions.{carried}
use Rattle.fst_rational.proofs.GoingOn.{all_behind, all_done, fewer_left, none_left, still_whole}
use Rattle.fst_rational.proofs.carry.carry_all.Goals as goal

pub loop-how-smaller : goal.loop-how-smaller
loop-how-smaller g c =
    let some : 0 < length c.loop-how.states.left = omega (arith, c.left.ensures, c.loop-how-test.true) in
    omega (arith, fewer_left c.loop-how.states.left some, ap length c.in_ok-carry_next.ensures.left)

pub loop-how-preserved : goal.loop-how-preserved
loop-how-preserved g c =
    let value = g.W.Weight.value in
    let how = c.args.how in
    let left = c.loop-how.states.left in
    let Good : List (State g.row.W.Denot) → Type 0 = λ ss. All (λ s. All (IsArc value most_states) s.arcs) ss in
    record {
      whole = still_whole value how.shift how.keeps how.target left c.loop-how.states.done c.carry_next.new.states.done c.carry_next.new.states.left (map (carried how.shift how.keeps how.target) (map (valued_state value) c.args.given.left)) c.loop-how.invariant.whole c.in_ok-carry_next.ensures.done c.in_ok-carry_next.ensures.left;
      good = subst Good (sym c.in_ok-carry_next.ensures.left) (all_behind (λ (s : State g.row.W.Denot). All (IsArc value most_states) s.arcs) left c.loop-how.invariant.good);
      room = subst (λ (ss : List (State g.row.W.Denot)). goings how.target (map (valued_state value) ss) ≤ c.carry_next.new.states.room) (sym c.in_ok-carry_next.ensures.left) c.in_ok-carry_next.ensures.room;
    }

pub returns : goal.returns
returns g c =
    let value = g.W.Weight.value in
    let how = c.args.how in
    let left = c.loop-how.states.left in
    all_done value how.shift how.keeps how.target left c.loop-how.states.done c.into_list.result (map (carried how.shift how.keeps how.target) (map (valued_state value) c.args.given.left)) c.loop-how.invariant.whole (none_left left (λ some. omega (arith, c.left.ensures, c.loop-how-test.false, some))) c.into_list.ensures
