use Rattle.std.proofs.Common.{◌≡◌, ◌+◌, ◌-◌, ◌*◌, ◌^◌, ◌<◌, ◌++◌, ℕ, true, cond, length}
use Rattle.fst_machine.specs.BreadthFirst.{Has}
use Rattle.fst_claims.specs.Passes.{IsPassOf, found, parts, won}
use Rattle.fst_delayed.specs.Caches.{keys}
use Rattle.fst_delayed.specs.Graphs.{delayed_graph}
use Rattle.fst_delayed.specs.Handed.{Name}
use Rattle.fst_lattice.specs.Lattice.{Point}
use Rattle.fst_lattice.specs.Serving.{IsGrown, IsOwn, IsSameJob}
use Rattle.fst_lattice.specs.Walks.{IsHead, IsJob}
use Rattle.fst_lattice.proofs.serving.serve.Given as goal

abbrev pub invariant-loop-key : goal.invariant-loop-key
invariant-loop-key g l = record {
  pass : IsPassOf l.claims l.pass × (parts l.pass ≡ parts l.initial.pass);
  own : IsOwn g.W.Weight.wide_value (delayed_graph g.W.Weight.KIND g.W.Weight.value l.delayed) l.cache l.own (won l.pass);
  job : IsJob g.W.Weight.KIND g.W.Weight.value l.delayed l.line (keys l.cache ++ keys l.own) l.job;
  same : IsSameJob l.initial.job l.job;
  grown : IsGrown l.claims.places l.line (delayed_graph g.W.Weight.KIND g.W.Weight.value l.delayed) l.initial.job.limit l.initial.own l.own (found l.initial.pass) (found l.pass);
  count : g.M.Meter.count l.meter + length l.initial.own ≡ g.M.Meter.count l.initial.meter + length l.own;
  few : g.M.Meter.count l.meter < 2 ^ 62 + length l.own;
  meter : (g.M.Meter.parts_out l.meter ≡ g.M.Meter.parts_out l.initial.meter) × (g.M.Meter.is_part l.meter ≡ g.M.Meter.is_part l.initial.meter);
  known : l.put ≡ true → (at : Point (Name ℕ ℕ)) × IsHead l.job at × Has (keys l.cache ++ keys l.own) at.name;
}

abbrev pub decreases-loop-key : goal.decreases-loop-key
decreases-loop-key g l = 2 * ((l.job.limit + 1) - l.job.taken) + cond l.put 0 1
