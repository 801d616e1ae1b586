use Rattle.std.proofs.Common.{◌≡◌, map, take}
use Rattle.fst_replace.specs.Calls.{arcs_of, calls_in, rules_in}
use Rattle.fst_replace.specs.Rules.{labels_of}
use Rattle.fst_replace.proofs.calls.calls_of.Given as goal

abbrev pub invariant-loop-place : goal.invariant-loop-place
invariant-loop-place g l = l.calls.items ≡ map (λ r. rules_in (calls_in (labels_of l.rules) (arcs_of r.machine.states))) (take l.place l.rules)
