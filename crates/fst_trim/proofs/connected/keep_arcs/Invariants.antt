use Rattle.std.proofs.Common.{◌≡◌, ◌++◌, drop}
use Rattle.fst_machine.specs.Renumbered.{marked_arcs}
use Rattle.fst_trim.proofs.connected.keep_arcs.Given as goal

abbrev pub invariant-loop-arc : goal.invariant-loop-arc
invariant-loop-arc g l = l.kept.items ++ marked_arcs l.marks l.numbers (drop l.arc-index l.arcs) ≡ l.fn.kept.items ++ marked_arcs l.marks l.numbers l.arcs
