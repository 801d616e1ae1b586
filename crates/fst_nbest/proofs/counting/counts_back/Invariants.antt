use Rattle.std.proofs.Common.{◌-◌, ◌≤◌, ℕ}
use Rattle.fst_nbest.specs.Counts.{Hops}
use Rattle.fst_nbest.proofs.Counted.{IsCounting}
use Rattle.fst_nbest.proofs.counting.counts_back.Given as goal

abbrev pub invariant-loop-taken : goal.invariant-loop-taken
invariant-loop-taken g l =
    let b = g.B.Backward in
    record {
      few : b.size l.back ≤ 8388608;
      counting : (level : ℕ) × IsCounting (b.size l.back) (b.stops l.back) (Hops (b.links l.back) (b.leads l.back)) l.counts.items l.names.items l.taken level;
    }

abbrev pub decreases-loop-taken : goal.decreases-loop-taken
decreases-loop-taken g l = g.B.Backward.size l.back - l.taken
