use Rattle.std.proofs.Common.{List, map, subst}
use Rattle.fst_semiring.specs.Cost.{Cost}
use Rattle.fst_machine.specs.Machine.{Arc, valued_arc}
use Rattle.fst_delayed.specs.Handed.{Name}
use Rattle.fst_lattice.specs.Lattice.{Point}
use Rattle.fst_lattice.proofs.Finding.{run_arcs}
use Rattle.fst_batch.specs.Filling.{Continues}
use Rattle.fst_batch.proofs.Lattices.{run_found}
use Rattle.fst_batch.proofs.numbering.number_those.Goals as goal

pub number_label-requires-2-clause-found : goal.number_label-requires-2-clause-found
number_label-requires-2-clause-found g c = run_found c.args.points.now c.args.label c.args.position g.W.Weight.wide_value c.run_of-run.result.now c.args.arcs.now c.run_of-run.ensures c.requires.found

pub returns-clause-arcs : goal.returns-clause-arcs
returns-clause-arcs g c =
    let value = g.W.Weight.wide_value in
    subst (λ (xs : List (Arc Cost (Point (Name _ _)))). Continues c.args.points.now xs (map (valued_arc value) c.args.out.now.items) (map (valued_arc value) c.number_label-2.new.out.items))
    (run_arcs value c.args.label c.args.position c.run_of-run.result.now c.args.arcs.now c.run_of-run.ensures) c.in_ok-number_label.ensures.arcs
