use Rattle.std.proofs.Common.{◌≡◌, take}
use Rattle.fst_machine.specs.Renumbered.{marked}
use Rattle.fst_trim.proofs.connected.list_marked.Given as goal

abbrev pub invariant-loop-place : goal.invariant-loop-place
invariant-loop-place l = l.kept.items ≡ marked 0 (take l.place l.marks)
