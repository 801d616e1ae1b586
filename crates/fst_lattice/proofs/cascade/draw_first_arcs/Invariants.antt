use Rattle.std.proofs.Common.{◌≡◌, ◌-◌, ◌++◌}
use Rattle.fst_lattice.specs.Cascade.{behind_arcs, first_arcs, letters}
use Rattle.fst_lattice.specs.Draws.{skip}
use Rattle.fst_lattice.proofs.cascade.draw_first_arcs.Given as goal

abbrev pub invariant-loop-b : goal.invariant-loop-b
invariant-loop-b l = record {
  arcs : l.out.items ++ first_arcs l.x l.b (123 - l.b) ≡ first_arcs l.fn.x 97 letters;
  state : skip 5 l.x (123 - l.b) ≡ behind_arcs l.fn.x;
}
