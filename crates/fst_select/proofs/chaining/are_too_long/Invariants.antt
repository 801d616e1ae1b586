use Rattle.std.proofs.Common.{◌≡◌, ◌<◌, ◌+◌, drop, map}
use Rattle.fst_machine.specs.Machine.{most_states}
use Rattle.fst_select.specs.Strings.{labels_listed, weighted}
use Rattle.fst_select.proofs.chaining.are_too_long.Given as goal

abbrev pub invariant-loop-i : goal.invariant-loop-i
invariant-loop-i g l =
    let strings = map (weighted g.W.Weight.wide_value) l.strings in
    record {
      counted : l.count + labels_listed (drop l.i strings) ≡ labels_listed strings;
      few : l.count < most_states;
    }
