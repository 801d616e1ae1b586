use Rattle.std.proofs.Common.{◌≡◌, ◌+◌, ◌-◌, ◌≤◌, [], None, map}
use Rattle.fst_machine.specs.Machine.{most_arcs, valued_state}
use Rattle.fst_walk.specs.Making.{IsMaking}
use Rattle.fst_walk.proofs.walking.follow_all.Given as goal

abbrev pub invariant-loop-taken : goal.invariant-loop-taken
invariant-loop-taken g l = record {
  making : IsMaking (g.N.Names.graph l.graph) l.limit l.output.names (map (valued_state g.W.Weight.value) l.output.states.states) l.output.total l.output.overflow l.taken;
  total : l.output.total ≤ most_arcs + 1;
  closed : l.output.overflow ≡ None → l.output.total ≤ most_arcs → l.output.states.arcs ≡ [];
}

abbrev pub decreases-loop-taken : goal.decreases-loop-taken
decreases-loop-taken g l = l.limit - l.taken
