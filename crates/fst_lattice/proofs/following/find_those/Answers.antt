use Rattle.std.proofs.Common.{◌≤◌, List, length, map, subst}
use Rattle.fst_semiring.specs.Cost.{Cost}
use Rattle.fst_machine.specs.BreadthFirst.{Grows}
use Rattle.fst_machine.specs.Graph.{nexts}
use Rattle.fst_machine.specs.Machine.{Arc}
use Rattle.fst_walk.specs.Making.{Passes}
use Rattle.fst_walk.specs.Names.{key_arc}
use Rattle.fst_delayed.specs.Handed.{Name}
use Rattle.fst_lattice.specs.Lattice.{Point}
use Rattle.fst_lattice.specs.Walks.{label_arcs}
use Rattle.fst_lattice.proofs.Finding.{run_arcs}
use Rattle.fst_lattice.proofs.following.find_those.Goals as goal

pub returns-in-None-clause-finds : goal.returns-in-None-clause-finds
returns-in-None-clause-finds g c =
    let value = g.W.Weight.wide_value in
    let passes : Passes c.args.limit c.args.points.now (nexts (label_arcs c.args.label c.args.position (map (key_arc value) c.run_of-run.result.now))) = rw c.in-None.is at c.in_ok-find_label.ensures.finds in
    subst (λ (arcs : List (Arc Cost (Point (Name _ _)))). Passes c.args.limit c.args.points.now (nexts arcs)) (run_arcs value c.args.label c.args.position c.run_of-run.result.now c.args.arcs.now c.run_of-run.ensures) passes

pub returns-in-Some-clause-finds : goal.returns-in-Some-clause-finds
returns-in-Some-clause-finds g c =
    let value = g.W.Weight.wide_value in
    let new = c.find_label-2.new.points in
    let found : Grows c.args.points.now (nexts (label_arcs c.args.label c.args.position (map (key_arc value) c.run_of-run.result.now))) new × (length new ≤ c.args.limit) = rw c.in-Some.is at c.in_ok-find_label.ensures.finds in
    (subst (λ (arcs : List (Arc Cost (Point (Name _ _)))). Grows c.args.points.now (nexts arcs) new) (run_arcs value c.args.label c.args.position c.run_of-run.result.now c.args.arcs.now c.run_of-run.ensures) found.0, found.1)
