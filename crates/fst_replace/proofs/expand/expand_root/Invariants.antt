use Rattle.std.proofs.Common.{◌≡◌, ◌-◌, [], map}
use Rattle.fst_machine.specs.Machine.{most_states, valued_state}
use Rattle.fst_replace.specs.Rules.{valued_rules}
use Rattle.fst_replace.specs.Totals.{IsExpanding}
use Rattle.fst_replace.proofs.expand.expand_root.Given as goal

abbrev pub invariant-loop-call : goal.invariant-loop-call
invariant-loop-call g l = record {
  expanding : IsExpanding (valued_rules g.W.Weight.value l.rules) l.shapes (map (valued_state g.W.Weight.value) l.output.states) l.waiting.items l.at;
  calls : l.output.calls.items ≡ [];
}

abbrev pub decreases-loop-call : goal.decreases-loop-call
decreases-loop-call g l = most_states - l.at
