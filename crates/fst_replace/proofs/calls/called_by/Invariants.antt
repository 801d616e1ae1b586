use Rattle.std.proofs.Common.{◌≡◌, take}
use Rattle.fst_replace.specs.Calls.{arcs_of, calls_in, rules_in}
use Rattle.fst_replace.specs.Rules.{labels_of}
use Rattle.fst_replace.proofs.calls.called_by.Given as goal

abbrev pub invariant-loop-state : goal.invariant-loop-state
invariant-loop-state g l = l.places.items ≡ rules_in (calls_in (labels_of l.rules) (arcs_of (take l.state l.machine.states)))
