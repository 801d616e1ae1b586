use Rattle.std.proofs.Common.{ℕ, ◌<◌, ◌≡◌, false, get_or}
use Rattle.fst_machine.specs.Machine.{Arc}
use Rattle.fst_trim.proofs.useful.leads_to.Given as goal

abbrev pub invariant-loop-arc : goal.invariant-loop-arc
invariant-loop-arc g l = (i : ℕ) (d : Arc g.row.V.Denot ℕ) → i < l.arc-index → get_or l.marks (get_or l.arcs i d).next false ≡ false
