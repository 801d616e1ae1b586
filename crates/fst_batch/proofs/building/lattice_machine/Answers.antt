use Rattle.std.proofs.Common.{◌≤◌, length, ap, arith}
use Rattle.std.proofs.lemmas.List.{length-map, take_all}
use Rattle.fst_machine.specs.Machine.{valued, valued_state}
use Rattle.fst_machine.proofs.Valued.{arc_total-valued}
use Rattle.fst_walk.specs.Making.{arcs_of}
use Rattle.fst_delayed.specs.Graphs.{delayed_graph}
use Rattle.fst_lattice.specs.Lattice.{lattice}
use Rattle.fst_batch.proofs.Filled.{bare_small, filling_begins, filling_ends}
use Rattle.fst_batch.proofs.building.lattice_machine.Goals as goal

pub loop-place-init : goal.loop-place-init
loop-place-init g c =
    let value = g.W.Weight.wide_value in
    let L = lattice c.args.line.now (delayed_graph g.W.Weight.KIND g.W.Weight.value (g.D.Composed.machines c.args.delayed.now)) in
    let fst = c.in_ok-fst.fst in
    let long = length-map fst.states (valued_state value) in
    let size = c.in_ok-fst.ensures.size in
    let count = c.len.ensures in
    record {
      filling = filling_begins L c.args.points.now (valued value fst) c.in_ok-fst.ensures.start (omega (arith, long, size, count)) c.in_ok-fst.ensures.bare;
      small = bare_small (valued value fst) c.in_ok-fst.ensures.bare;
    }

pub returns : goal.returns
returns g c =
    let value = g.W.Weight.wide_value in
    let L = lattice c.args.line.now (delayed_graph g.W.Weight.KIND g.W.Weight.value (g.D.Composed.machines c.args.delayed.now)) in
    let whole = c.requires.whole in
    let fst = c.loop-place.fst in
    let filling = c.loop-place.invariant.filling in
    let over : length c.args.points.now ≤ c.loop-place.place = omega arith in
    let total = arc_total-valued value fst.states in
    let all = ap (arcs_of L) (take_all c.loop-place.place c.args.points.now over) in
    let counted = filling.counted in
    let few = c.states-states.ensures.machine.few_arcs in
    record {
      start = filling.start;
      numbered = filling_ends L c.args.points.now c.loop-place.place (valued value fst) filling over whole.start whole.starts whole.listed;
      few = omega (arith, total, all, counted, few);
      small = c.loop-place.invariant.small;
    }
