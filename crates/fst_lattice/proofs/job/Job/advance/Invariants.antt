use Rattle.std.proofs.Common.{◌≡◌, ◌+◌, ◌-◌, ◌≤◌, ◌++◌, List, ℕ}
use Rattle.fst_delayed.specs.Caches.{keys}
use Rattle.fst_delayed.specs.Handed.{Name}
use Rattle.fst_lattice.specs.Lattice.{Point}
use Rattle.fst_lattice.specs.Walks.{IsJob}
use Rattle.fst_lattice.proofs.job.Job.advance.Given as goal

abbrev pub invariant-loop-self : goal.invariant-loop-self
invariant-loop-self g l = record {
  job : IsJob g.W.Weight.KIND g.W.Weight.value l.delayed l.line (keys l.cache ++ keys l.own) l.self;
  index : l.self.index ≡ l.initial.self.index;
  limit : l.self.limit ≡ l.initial.self.limit;
  taken : l.initial.self.taken ≤ l.self.taken;
  front : (more : List (Point (Name ℕ ℕ))) × (l.self.points ≡ l.initial.self.points ++ more);
}

abbrev pub decreases-loop-self : goal.decreases-loop-self
decreases-loop-self g l = (l.self.limit + 1) - l.self.taken
