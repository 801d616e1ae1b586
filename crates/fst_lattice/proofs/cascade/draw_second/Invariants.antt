use Rattle.std.proofs.Common.{◌≡◌, ◌-◌, ◌++◌}
use Rattle.fst_lattice.specs.Cascade.{second_end, second_size, second_states}
use Rattle.fst_lattice.proofs.Drawn.{IsMade}
use Rattle.fst_lattice.proofs.cascade.draw_second.Given as goal

abbrev pub invariant-loop-state : goal.invariant-loop-state
invariant-loop-state l = record {
  states : l.states ++ second_states l.x (second_size - l._state) ≡ second_states l.fn.x second_size;
  state : second_end l.x (second_size - l._state) ≡ second_end l.fn.x second_size;
  made : IsMade 200 26 l._state l.states;
}
