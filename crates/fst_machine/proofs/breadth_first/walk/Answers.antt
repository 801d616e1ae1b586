use Rattle.std.proofs.Common.{List, ℕ, length, sym, subst, arith}
use Rattle.fst_machine.specs.Machine.{valued}
use Rattle.fst_machine.specs.Graph.{graph_of}
use Rattle.fst_machine.specs.BreadthFirst.{Grows}
use Rattle.fst_machine.proofs.Walking.{taken_within, marked_goes_on, marked_few, graph_nexts, nexts_within}
use Rattle.fst_machine.proofs.breadth_first.walk.Goals as goal

pub arcs-arcs-requires : goal.arcs-arcs-requires
arcs-arcs-requires g c =
    let l = c.loop-taken in
    (taken_within l.seen.items l.names.items (length c.args.fst.now.states) l.taken c.index.result.now l.invariant.marks l.invariant.size (omega arith) c.index.ensures).1

pub find_all-requires-clause-within : goal.find_all-requires-clause-within
find_all-requires-clause-within g c k d low =
    let good = nexts_within g.W.Weight.value c.args.fst.now c.index.result.now c.arcs-arcs.result.now c.states-states.ensures.machine c.arcs-arcs.ensures k d low in
    omega (arith, good, c.loop-taken.invariant.size)

pub loop-taken-smaller : goal.loop-taken-smaller
loop-taken-smaller g c =
    let l = c.loop-taken in
    let few = marked_few (graph_of (valued g.W.Weight.value c.args.fst.now)) c.args.start l.seen.items l.names.items l.taken (length c.args.fst.now.states) l.invariant in
    omega (arith, few)

pub loop-taken-preserved : goal.loop-taken-preserved
loop-taken-preserved g c =
    let l = c.loop-taken in
    let f = c.in_ok-find_all.ensures in
    let count = length c.args.fst.now.states in
    let graph = graph_of (valued g.W.Weight.value c.args.fst.now) in
    let n = c.index.result.now in
    let at = taken_within l.seen.items l.names.items count l.taken n l.invariant.marks l.invariant.size (omega arith) c.index.ensures in
    let grows = subst (λ (zs : List ℕ). Grows l.names.items zs c.find_all.new.names.items) (sym (graph_nexts g.W.Weight.value c.args.fst.now n c.arcs-arcs.result.now c.arcs-arcs.ensures)) f.grows in
    marked_goes_on graph c.args.start l.seen.items c.find_all.new.seen.items l.names.items c.find_all.new.names.items l.taken n count l.invariant at.0 grows f.marks f.size
