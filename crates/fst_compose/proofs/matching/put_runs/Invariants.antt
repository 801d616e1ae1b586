use Rattle.std.proofs.Common.{◌≡◌, ◌*◌, ◌-◌, ◌<◌, ◌≤◌, ◌++◌, ℕ, length, get_or, map, take}
use Rattle.fst_machine.specs.Machine.{Arc, valued_arc}
use Rattle.fst_trim.specs.Runs.{TakesSteps}
use Rattle.fst_walk.specs.Names.{key_arc}
use Rattle.fst_compose.specs.Matching.{all_matches}
use Rattle.fst_compose.proofs.matching.put_runs.Given as goal

abbrev pub invariant-loop-place : goal.invariant-loop-place
invariant-loop-place g l = record {
  first : l.taken ≤ length l.arcs;
  second : l.place ≤ length l.bs;
  low : (i j : ℕ) (d e : Arc g.row.W.Denot ℕ) → i < l.taken → l.place ≤ j → j < length l.bs → (get_or l.arcs i d).olabel < (get_or l.bs j e).ilabel;
  high : (i j : ℕ) (d e : Arc g.row.W.Denot ℕ) → l.taken ≤ i → i < length l.arcs → j < l.place → (get_or l.bs j e).ilabel < (get_or l.arcs i d).olabel;
  put : map (key_arc g.W.Weight.wide_value) l.out.items ≡ map (key_arc g.W.Weight.wide_value) l.fn.out.items ++ all_matches g.W.Weight.KIND (map (valued_arc g.W.Weight.value) l.arcs) (map (valued_arc g.W.Weight.value) (take l.place l.bs));
  cost : TakesSteps (2 * l.place) (length l.arcs) l.fn.steps l.steps;
}

abbrev pub decreases-loop-place : goal.decreases-loop-place
decreases-loop-place g l = length l.bs - l.place
