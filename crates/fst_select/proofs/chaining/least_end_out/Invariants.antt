use Rattle.std.proofs.Common.{◌≡◌, ◌+◌, drop, map}
use Rattle.fst_select.specs.Strings.{labels_listed, weighted}
use Rattle.fst_select.proofs.StringChains.{IsLeastBefore}
use Rattle.fst_select.proofs.chaining.least_end_out.Given as goal

abbrev pub invariant-loop-i : goal.invariant-loop-i
invariant-loop-i g l =
    let strings = map (weighted g.W.Weight.wide_value) l.strings in
    record {
      counted : l.labels + labels_listed (drop l.i strings) ≡ labels_listed strings;
      least : IsLeastBefore strings (drop l.i strings) l.labels l.least;
    }
