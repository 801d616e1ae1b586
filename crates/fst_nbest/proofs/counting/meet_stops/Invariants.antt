use Rattle.fst_nbest.specs.Counts.{AreStops}
use Rattle.fst_nbest.proofs.counting.meet_stops.Given as goal

abbrev pub invariant-loop-name : goal.invariant-loop-name
invariant-loop-name g l = record {
  stops : AreStops (g.B.Backward.stops l.back) (g.B.Backward.size l.back) l.name l.counts.items l.names.items;
}
