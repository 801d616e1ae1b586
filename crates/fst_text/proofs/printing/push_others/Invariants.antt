use Rattle.std.proofs.Common.{◌≡◌, ◌++◌, drop, map}
use Rattle.fst_machine.specs.Machine.{valued_state}
use Rattle.fst_text.specs.Printed.{other_entries, text_of_entries, unnamed_label}
use Rattle.fst_text.proofs.printing.push_others.Given as goal

-- the lines of the states that are left complete what is appended, and the first label without a name is of
-- one of them
abbrev pub invariant-loop-state : goal.invariant-loop-state
invariant-loop-state g l = record {
  text : l.out.items ++ text_of_entries g.W.Weight.KIND l.options (other_entries l.start l.state (map (valued_state g.W.Weight.value) (drop l.state l.fst.states))) ≡ l.fn.out.items ++ text_of_entries g.W.Weight.KIND l.options (other_entries l.start 0 (map (valued_state g.W.Weight.value) l.fst.states));
  named : unnamed_label l.options (other_entries l.start l.state (map (valued_state g.W.Weight.value) (drop l.state l.fst.states))) ≡ unnamed_label l.options (other_entries l.start 0 (map (valued_state g.W.Weight.value) l.fst.states));
}
