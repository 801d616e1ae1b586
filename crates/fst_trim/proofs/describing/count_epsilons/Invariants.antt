use Rattle.std.proofs.Common.{◌≡◌, take, sum_by}
use Rattle.std.specs.List.{count_by}
use Rattle.fst_trim.specs.Counted.{has_input_epsilon, has_output_epsilon, has_both_epsilons}
use Rattle.fst_trim.proofs.describing.count_epsilons.Given as goal

abbrev pub invariant-loop-state : goal.invariant-loop-state
invariant-loop-state g l = record {
  input : l.epsilons.input ≡ sum_by (λ s. count_by has_input_epsilon s.arcs) (take l.state l.fst.states);
  output : l.epsilons.output ≡ sum_by (λ s. count_by has_output_epsilon s.arcs) (take l.state l.fst.states);
  both : l.epsilons.both ≡ sum_by (λ s. count_by has_both_epsilons s.arcs) (take l.state l.fst.states);
}
