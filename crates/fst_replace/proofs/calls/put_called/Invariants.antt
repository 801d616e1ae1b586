use Rattle.std.proofs.Common.{◌≡◌, ◌++◌, take}
use Rattle.fst_replace.specs.Calls.{calls_in, rules_in}
use Rattle.fst_replace.specs.Rules.{labels_of}
use Rattle.fst_replace.proofs.calls.put_called.Given as goal

abbrev pub invariant-loop-arc : goal.invariant-loop-arc
invariant-loop-arc g l = l.places.items ≡ l.fn.places.items ++ rules_in (calls_in (labels_of l.rules) (take l.arc-index l.arcs))
