use Rattle.std.proofs.Common.{◌≡◌, drop, map}
use Rattle.fst_machine.specs.Machine.{valued_state}
use Rattle.fst_text.specs.Printed.{split_state}
use Rattle.fst_text.proofs.printing.split_state.Given as goal

-- the first arc with two labels is among those of the states that are left
abbrev pub invariant-loop-state : goal.invariant-loop-state
invariant-loop-state g l = split_state l.state (map (valued_state g.W.Weight.value) (drop l.state l.fst.states)) ≡ split_state 0 (map (valued_state g.W.Weight.value) l.fst.states)
