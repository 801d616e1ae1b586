use Rattle.std.proofs.Common.{◌≡◌, ◌-◌, ◌≤◌, take}
use Rattle.fst_lattice.specs.Runs.{IsDealt, all_lines, run}
use Rattle.fst_lattice.proofs.Numbers.{IsFar}
use Rattle.fst_lattice.proofs.Turns.{InTurn}
use Rattle.fst_lattice.proofs.dealing.deal.Given as goal

abbrev pub invariant-loop-worker : goal.invariant-loop-worker
invariant-loop-worker g l = record {
  low : l.from ≤ l.next;
  high : l.next ≤ l.to;
  turn : InTurn (IsDealt g.W.Weight.KIND g.W.Weight.value g.W.Weight.wide_value l.delayed l.lines l.limit) l.initial.workers l.workers l.worker-index;
  lines : all_lines (take l.worker-index l.workers) ≡ run l.from (l.next - l.from);
  far : IsFar l.from l.to l.share l.worker-index l.next;
}
