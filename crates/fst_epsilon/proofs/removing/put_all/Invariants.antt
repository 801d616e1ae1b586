use Rattle.std.proofs.Common.{◌≡◌, ◌≤◌, [], length, map}
use Rattle.fst_machine.specs.Graph.{graph_of}
use Rattle.fst_machine.specs.Machine.{valued, valued_state}
use Rattle.fst_trim.specs.Links.{epsilon_links}
use Rattle.fst_epsilon.specs.Making.{IsRemoving}
use Rattle.fst_epsilon.proofs.removing.put_all.Given as goal

abbrev pub invariant-loop-state : goal.invariant-loop-state
invariant-loop-state g l = record {
  closures : l.closures ≡ epsilon_links l.fst.states;
  empty : g.Q.StateQueue.members l.queue ≡ [];
  within : l.state ≤ length l.fst.states;
  removing : IsRemoving g.W.Weight.KIND (graph_of (valued g.W.Weight.value l.fst)) l.state (map (valued_state g.W.Weight.value) l.output.states) l.output.total l.output.overflow;
}
