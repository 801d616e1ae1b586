use Rattle.fst_distance.proofs.Entering.{NoneLeads}
use Rattle.fst_distance.proofs.pushing.leads_to.Given as goal

abbrev pub invariant-loop-arc : goal.invariant-loop-arc
invariant-loop-arc g l = NoneLeads l.arcs l.arc-index l.state
