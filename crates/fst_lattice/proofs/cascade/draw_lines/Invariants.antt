use Rattle.std.proofs.Common.{◌≡◌, ◌-◌, ◌++◌}
use Rattle.fst_lattice.specs.Cascade.{drawn_lines}
use Rattle.fst_lattice.proofs.cascade.draw_lines.Given as goal

abbrev pub invariant-loop-line : goal.invariant-loop-line
invariant-loop-line l = l.lines ++ drawn_lines l.x (l.count - l._line) ≡ drawn_lines l.fn.x l.count
