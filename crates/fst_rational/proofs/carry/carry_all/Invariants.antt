use Rattle.std.proofs.Common.{◌≡◌, ◌≤◌, ◌++◌, length, map}
use Rattle.std.specs.List.{All}
use Rattle.fst_machine.specs.Machine.{IsArc, most_states, valued_state}
use Rattle.fst_rational.specs.Changing.{goings}
use Rattle.fst_rational.specs.Constructions.{carried}
use Rattle.fst_rational.proofs.carry.carry_all.Given as goal

abbrev pub invariant-loop-how : goal.invariant-loop-how
invariant-loop-how g l =
    let value = g.W.Weight.value in
    let goes = carried l.how.shift l.how.keeps l.how.target in
    record {
      whole : map (valued_state value) l.states.done ++ map goes (map (valued_state value) l.states.left) ≡ map goes (map (valued_state value) l.fn.given.left);
      good : All (λ s. All (IsArc value most_states) s.arcs) l.states.left;
      room : goings l.how.target (map (valued_state value) l.states.left) ≤ l.states.room;
    }

abbrev pub decreases-loop-how : goal.decreases-loop-how
decreases-loop-how g l = length l.states.left
