use Rattle.std.proofs.Common.{◌≡◌, ◌-◌, ◌++◌}
use Rattle.fst_lattice.specs.Cascade.{drawn_letters}
use Rattle.fst_lattice.specs.Draws.{skip}
use Rattle.fst_lattice.proofs.cascade.draw_letters.Given as goal

abbrev pub invariant-loop-letter : goal.invariant-loop-letter
invariant-loop-letter l = record {
  letters : l.out.items ++ drawn_letters l.x (l.count - l._letter) ≡ drawn_letters l.fn.x l.count;
  state : skip 1 l.x (l.count - l._letter) ≡ skip 1 l.fn.x l.count;
}
