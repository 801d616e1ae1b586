use Rattle.std.proofs.Common.{◌++◌, Some, List, map, slice_get, sym, ap, ◌∙◌, subst, append_assoc}
use Rattle.fst_semiring.specs.Cost.{Cost}
use Rattle.fst_machine.specs.BreadthFirst.{Grows}
use Rattle.fst_machine.specs.Graph.{nexts}
use Rattle.fst_machine.specs.Machine.{Arc}
use Rattle.fst_walk.specs.Making.{Passes}
use Rattle.fst_walk.specs.Names.{key_arc}
use Rattle.fst_lattice.specs.Lattice.{byte_arcs}
use Rattle.fst_lattice.specs.Walks.{label_arcs}
use Rattle.fst_lattice.proofs.Finding.{both_found, first_part, silent_none}
use Rattle.fst_lattice.proofs.following.follow.Goals as goal

pub returns-in_default-clause-finds : goal.returns-in_default-clause-finds
returns-in_default-clause-finds g c =
    let arcs = map (key_arc g.W.Weight.wide_value) c.args.arcs.now in
    let bytes = byte_arcs (slice_get c.args.line.now c.args.position) c.args.position arcs in
    let passes : Passes c.args.limit c.args.points.now (nexts bytes) = rw c.in_default.is at c.in_ok-silent.ensures.finds in
    first_part c.args.limit c.args.points.now bytes (label_arcs 0 c.args.position arcs) passes

pub returns-then-not-silent-clause-finds : goal.returns-then-not-silent-clause-finds
returns-then-not-silent-clause-finds g c =
    let arcs = map (key_arc g.W.Weight.wide_value) c.args.arcs.now in
    let bytes = byte_arcs (slice_get c.args.line.now c.args.position) c.args.position arcs in
    let one = rw c.in-Some.is at c.in_ok-silent.ensures.finds in
    let none = c.in_ok-silent.ensures.silent (c.in-Some.is ∙ ap Some c.if-not-silent.true) in
    (subst (λ (ys : List (Arc Cost _)). Grows c.args.points.now (nexts ys) c.find_byte.new.points) (sym (silent_none c.args.position bytes arcs none)) one.0, one.1)

pub returns-clause-finds : goal.returns-clause-finds
returns-clause-finds g c =
    let arcs = map (key_arc g.W.Weight.wide_value) c.args.arcs.now in
    let bytes = byte_arcs (slice_get c.args.line.now c.args.position) c.args.position arcs in
    let one = rw c.in-Some.is at c.in_ok-silent.ensures.finds in
    both_found c.args.limit c.args.points.now c.find_byte.new.points c.find_those.new.points bytes (label_arcs 0 c.args.position arcs) one.0 c.in_ok-all.all c.is_some.result c.is_some.ensures c.in_ok-all.ensures.finds

pub returns-clause-front : goal.returns-clause-front
returns-clause-front g c =
    let one = c.in_ok-silent.ensures.front in
    let two = c.in_ok-all.ensures.front in
    (one.0 ++ two.0, two.1 ∙ (ap (λ xs. xs ++ two.0) one.1 ∙ append_assoc c.args.points.now one.0 two.0))
