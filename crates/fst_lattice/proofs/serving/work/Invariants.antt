use Rattle.std.proofs.Common.{◌≡◌, ◌+◌, length}
use Rattle.fst_claims.specs.Passes.{IsPassOf, found, parts, won}
use Rattle.fst_delayed.specs.Graphs.{delayed_graph}
use Rattle.fst_lattice.specs.Serving.{IsOwn}
use Rattle.fst_lattice.proofs.Served.{IsServing}
use Rattle.fst_lattice.proofs.serving.work.Given as goal

abbrev pub invariant-loop-job : goal.invariant-loop-job
invariant-loop-job g l = record {
  pass : IsPassOf l.claims l.pass × (parts l.pass ≡ parts l.initial.pass);
  own : IsOwn g.W.Weight.wide_value (delayed_graph g.W.Weight.KIND g.W.Weight.value l.delayed) l.cache l.own (won l.pass);
  serving : IsServing g.W.Weight.KIND g.W.Weight.value g.W.Weight.wide_value l.delayed l.lines l.claims.places l.cache l.own (found l.pass) l.initial.jobs l.jobs l.job-index;
  count : g.M.Meter.count l.meter ≡ g.M.Meter.count l.initial.meter + length l.own;
  meter : (g.M.Meter.parts_out l.meter ≡ g.M.Meter.parts_out l.initial.meter) × (g.M.Meter.is_part l.meter ≡ g.M.Meter.is_part l.initial.meter);
}
