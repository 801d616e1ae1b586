use Rattle.std.proofs.Common.{◌≡◌, drop, map}
use Rattle.fst_machine.specs.Machine.{valued_arc}
use Rattle.fst_text.specs.Printed.{split_arc}
use Rattle.fst_text.proofs.printing.split_arc.Given as goal

-- the first arc with two labels is among those that are left
abbrev pub invariant-loop-place : goal.invariant-loop-place
invariant-loop-place g l = split_arc l.state l.place (map (valued_arc g.W.Weight.value) (drop l.place l.arcs)) ≡ split_arc l.state 0 (map (valued_arc g.W.Weight.value) l.arcs)
