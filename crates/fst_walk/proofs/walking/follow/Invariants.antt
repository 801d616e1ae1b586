use Rattle.std.proofs.Common.{◌+◌, ◌≤◌, map}
use Rattle.fst_machine.specs.Machine.{most_arcs, valued_arc, valued_state}
use Rattle.fst_walk.specs.Making.{IsTaking}
use Rattle.fst_walk.specs.Names.{left_from}
use Rattle.fst_walk.proofs.Parts.{places_left}
use Rattle.fst_walk.proofs.walking.follow.Given as goal

abbrev pub invariant-loop-next : goal.invariant-loop-next
invariant-loop-next g l = record {
  taking : IsTaking (g.N.Names.graph l.graph) l.limit l.place (λ n. left_from (g.N.Names.rest l.graph n) l.next) l.output.names (map (valued_state g.W.Weight.value) l.output.states.states) (map (valued_arc g.W.Weight.value) l.output.states.arcs) l.output.total l.output.overflow l.fits;
  total : l.output.total ≤ most_arcs + 1;
}

abbrev pub decreases-loop-next : goal.decreases-loop-next
decreases-loop-next g l = places_left l.next
