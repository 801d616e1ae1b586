use Rattle.std.proofs.Common.{◌≡◌, ◌-◌, ◌++◌}
use Rattle.fst_lattice.specs.Cascade.{second_arcs, letters}
use Rattle.fst_lattice.specs.Draws.{skip}
use Rattle.fst_lattice.proofs.cascade.draw_second_arcs.Given as goal

abbrev pub invariant-loop-b : goal.invariant-loop-b
invariant-loop-b l = record {
  arcs : l.out.items ++ second_arcs l.x l.b (123 - l.b) ≡ second_arcs l.fn.x 97 letters;
  state : skip 2 l.x (123 - l.b) ≡ skip 2 l.fn.x letters;
}
