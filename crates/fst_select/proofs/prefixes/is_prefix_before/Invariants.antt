use Rattle.std.proofs.Common.{◌≡◌, ◌≤◌, ◌-◌, drop}
use Rattle.std.specs.Ordering.{nat_cmp}
use Rattle.std.specs.Cmp.Lexicographic.{slice_cmp}
use Rattle.fst_select.specs.Entries.{prefix_of, words_of}
use Rattle.fst_select.proofs.prefixes.is_prefix_before.Given as goal

abbrev pub invariant-loop-k : goal.invariant-loop-k
invariant-loop-k g l =
    let words = words_of l.listed in
    record {
      within : l.k ≤ l.least;
      rest : slice_cmp nat_cmp (prefix_of words l.a) (prefix_of words l.b) ≡ slice_cmp nat_cmp (drop l.k (prefix_of words l.a)) (drop l.k (prefix_of words l.b));
    }

abbrev pub decreases-loop-k : goal.decreases-loop-k
decreases-loop-k g l = l.least - l.k
