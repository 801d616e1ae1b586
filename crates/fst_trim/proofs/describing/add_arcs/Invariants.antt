use Rattle.std.proofs.Common.{◌≡◌, ◌+◌, take}
use Rattle.std.specs.List.{count_by}
use Rattle.fst_trim.specs.Counted.{has_input_epsilon, has_output_epsilon, has_both_epsilons}
use Rattle.fst_trim.proofs.describing.add_arcs.Given as goal

abbrev pub invariant-loop-arc : goal.invariant-loop-arc
invariant-loop-arc g l = record {
  input : l.epsilons.input ≡ l.fn.before.input + count_by has_input_epsilon (take l.arc-index l.arcs);
  output : l.epsilons.output ≡ l.fn.before.output + count_by has_output_epsilon (take l.arc-index l.arcs);
  both : l.epsilons.both ≡ l.fn.before.both + count_by has_both_epsilons (take l.arc-index l.arcs);
}
