use Rattle.std.proofs.Common.{◌≡◌, ◌≤◌, ◌+◌, ◌*◌, get_or, sum_by, take}
use Rattle.fst_replace.proofs.totals.total_of.Given as goal

abbrev pub invariant-loop-place : goal.invariant-loop-place
invariant-loop-place l = record {
  sum : l.total ≡ l.own + sum_by (λ j. get_or l.brought j 0 + get_or l.totals j 0) (take l.place-index l.places);
  small : l.total ≤ 4294967295 * 3;
}
