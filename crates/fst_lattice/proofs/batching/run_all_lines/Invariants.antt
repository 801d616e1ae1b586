use Rattle.std.proofs.Common.{◌≡◌, ◌-◌, ◌<◌, ◌≤◌, ℕ, List, Some, length, slice_get}
use Rattle.std.specs.List.{AllZip}
use Rattle.fst_machine.specs.BreadthFirst.{Has}
use Rattle.fst_delayed.specs.Caches.{keys}
use Rattle.fst_delayed.specs.Graphs.{delayed_graph}
use Rattle.fst_delayed.specs.Handed.{Name}
use Rattle.fst_lattice.specs.Needed.{IsNeeded}
use Rattle.fst_lattice.specs.Runs.{IsAnswerAt, IsBetween, run}
use Rattle.fst_lattice.proofs.batching.run_all_lines.Given as goal

abbrev pub invariant-loop-from : goal.invariant-loop-from
invariant-loop-from g l = record {
  low : l.from ≤ l.count;
  between : IsBetween g.W.Weight.KIND g.W.Weight.value g.W.Weight.wide_value g.M.Meter.count g.M.Meter.is_part l.delayed l.lines l.limit l.cache l.workers;
  size : length l.workers ≡ length l.initial.workers;
  known : (number : ℕ) (line : List ℕ) (n : Name ℕ ℕ) → number < l.from → slice_get l.lines number ≡ Some line → IsNeeded line (delayed_graph g.W.Weight.KIND g.W.Weight.value l.delayed) l.limit n → Has (keys l.cache) n;
  answers : AllZip (IsAnswerAt (g.A.Answering.answers l.answering l.delayed) l.lines) (run 0 l.from) l.answers.items;
}

abbrev pub decreases-loop-from : goal.decreases-loop-from
decreases-loop-from g l = l.count - l.from
