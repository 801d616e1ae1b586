use Rattle.fst_machine.specs.Machine.{valued}
use Rattle.fst_delayed.specs.Graphs.{delayed_graph}
use Rattle.fst_lattice.specs.Lattice.{lattice}
use Rattle.fst_batch.specs.Filling.{AreSmall, IsFilling}
use Rattle.fst_batch.proofs.building.lattice_machine.Given as goal

-- the states of the names so far are filled
abbrev pub invariant-loop-place : goal.invariant-loop-place
invariant-loop-place g l = record {
  filling : IsFilling (lattice l.line (delayed_graph g.W.Weight.KIND g.W.Weight.value (g.D.Composed.machines l.delayed))) l.points l.place (valued g.W.Weight.wide_value l.fst);
  small : AreSmall (valued g.W.Weight.wide_value l.fst);
}
