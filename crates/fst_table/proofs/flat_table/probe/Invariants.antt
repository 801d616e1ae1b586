use Rattle.std.proofs.Common.{◌≡◌, ◌-◌, length}
use Rattle.fst_table.specs.Slots.{probe_end, probe_from}
use Rattle.fst_table.proofs.flat_table.probe.Given as goal

abbrev pub invariant-loop-at : goal.invariant-loop-at
invariant-loop-at l = probe_from l.slots l.number l.at ≡ probe_end l.slots l.number

abbrev pub decreases-loop-at : goal.decreases-loop-at
decreases-loop-at l = length l.slots - l.at
