use Rattle.std.proofs.Common.{◌≡◌, ◌≤◌, ◌-◌, drop}
use Rattle.std.specs.Ordering.{nat_cmp}
use Rattle.std.specs.Cmp.Lexicographic.{slice_cmp}
use Rattle.fst_nbest.specs.Entries.{route_of}
use Rattle.fst_nbest.proofs.comparing.is_route_before.Given as goal

abbrev pub invariant-loop-k : goal.invariant-loop-k
invariant-loop-k g l = record {
  within : l.k ≤ l.least;
  rest : slice_cmp nat_cmp (route_of l.listed l.orders l.a) (route_of l.listed l.orders l.b) ≡ slice_cmp nat_cmp (drop l.k (route_of l.listed l.orders l.a)) (drop l.k (route_of l.listed l.orders l.b));
}

abbrev pub decreases-loop-k : goal.decreases-loop-k
decreases-loop-k g l = l.least - l.k
