use Rattle.std.proofs.Common.{◌<◌, ◌≤◌, length, map, sym, ap, ◌∙◌, subst, arith}
use Rattle.std.specs.List.{All}
use Rattle.std.proofs.lemmas.List.{take_all}
use Rattle.std.proofs.lemmas.Bool.Decides.{not_from_Decides}
use Rattle.fst_machine.specs.Machine.{arc_total, valued_state}
use Rattle.fst_machine.specs.Narrowing.{IsInRange}
use Rattle.fst_machine.proofs.Valued.{arc_total-valued}
use Rattle.fst_distance.specs.Totals.{put_on}
use Rattle.fst_distance.proofs.States.{first_next, put_next, range_next, room_next}
use Rattle.fst_distance.proofs.totalling.placed_states.Goals as goal

pub put_placed-requires-clause-state : goal.put_placed-requires-clause-state
put_placed-requires-clause-state g c =
    let a = c.state_count-count.ensures (g.W.Weight.wide_value c.args.total) in
    let b = c.loop-state-test.true in
    omega arith

pub put_placed-requires-clause-room : goal.put_placed-requires-clause-room
put_placed-requires-clause-room g c =
    let w = g.W.Weight in
    let m = put_on w.KIND (w.wide_value c.args.total) c.args.pushed.now c.args.place in
    let i = c.loop-state.state in
    let low : i < length m.states = let a = c.state_count-count.ensures (w.wide_value c.args.total) in let b = c.loop-state-test.true in omega arith in
    room_next m.states i low (arc_total c.loop-state.list) (sym (arc_total-valued w.value c.loop-state.list) ∙ ap arc_total c.loop-state.invariant.states) c.requires.few_arcs

pub returns-then-not-branch-clause-fault : goal.returns-then-not-branch-clause-fault
returns-then-not-branch-clause-fault g c =
    let w = g.W.Weight in
    let m = put_on w.KIND (w.wide_value c.args.total) c.args.pushed.now c.args.place in
    let i = c.loop-state.state in
    let low : i < length m.states = let a = c.state_count-count.ensures (w.wide_value c.args.total) in let b = c.loop-state-test.true in omega arith in
    first_next m i low c.loop-state.invariant.range (not_from_Decides _ c.in_ok-put_placed.ensures.fits c.if-not-branch.true)

pub loop-state-preserved : goal.loop-state-preserved
loop-state-preserved g c =
    let w = g.W.Weight in
    let m = put_on w.KIND (w.wide_value c.args.total) c.args.pushed.now c.args.place in
    let i = c.loop-state.state in
    let low : i < length m.states = let a = c.state_count-count.ensures (w.wide_value c.args.total) in let b = c.loop-state-test.true in omega arith in
    record {
      states = put_next m.states i low (map (valued_state w.value) c.loop-state.list) (map (valued_state w.value) c.put_placed.new.list) c.loop-state.invariant.states (c.in_ok-put_placed.ensures.list c.if-not-branch.false);
      range = range_next m.states i low c.loop-state.invariant.range (c.in_ok-put_placed.ensures.fits.0 c.if-not-branch.false);
    }

pub returns-clause-states : goal.returns-clause-states
returns-clause-states g c =
    let w = g.W.Weight in
    let states = (put_on w.KIND (w.wide_value c.args.total) c.args.pushed.now c.args.place).states in
    let high : length states ≤ c.loop-state.state = let a = c.state_count-count.ensures (w.wide_value c.args.total) in let b = c.loop-state-test.false in omega arith in
    c.loop-state.invariant.states ∙ take_all c.loop-state.state states high

pub returns-clause-fits : goal.returns-clause-fits
returns-clause-fits g c =
    let w = g.W.Weight in
    let states = (put_on w.KIND (w.wide_value c.args.total) c.args.pushed.now c.args.place).states in
    let high : length states ≤ c.loop-state.state = let a = c.state_count-count.ensures (w.wide_value c.args.total) in let b = c.loop-state-test.false in omega arith in
    subst (λ ss. All IsInRange ss) (take_all c.loop-state.state states high) c.loop-state.invariant.range
