use Rattle.std.proofs.Common.{◌+◌, drop, map}
use Rattle.fst_machine.specs.Machine.{valued, valued_state}
use Rattle.fst_rational.specs.Constructions.{reverse_of}
use Rattle.fst_rational.proofs.Counting.{IsCounting}
use Rattle.fst_rational.proofs.reversal.count_all.Given as goal

abbrev pub invariant-loop-state : goal.invariant-loop-state
invariant-loop-state g l = IsCounting (l.state + 1) (drop l.state (map (valued_state g.W.Weight.value) l.a.states)) (reverse_of g.W.Weight.KIND (valued g.W.Weight.value l.a)).states l.counts.items
