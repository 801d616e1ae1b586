use Rattle.std.proofs.Common.{◌≡◌, ◌-◌, ◌++◌}
use Rattle.fst_lattice.specs.Cascade.{first_end, first_size, first_states}
use Rattle.fst_lattice.proofs.Drawn.{IsMade}
use Rattle.fst_lattice.proofs.cascade.draw_first.Given as goal

abbrev pub invariant-loop-state : goal.invariant-loop-state
invariant-loop-state l = record {
  states : l.states ++ first_states l.x (first_size - l._state) ≡ first_states l.fn.x first_size;
  state : first_end l.x (first_size - l._state) ≡ first_end l.fn.x first_size;
  made : IsMade 500 52 l._state l.states;
}
