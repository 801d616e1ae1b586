use Rattle.std.proofs.Common.{◌≡◌, ◌++◌, drop}
use Rattle.fst_machine.specs.Graph.{graph_of}
use Rattle.fst_machine.specs.Letters.{output}
use Rattle.fst_machine.specs.Machine.{valued}
use Rattle.fst_machine.specs.Steps.{written}
use Rattle.fst_nbest.specs.Chains.{chain_of}
use Rattle.fst_batch.specs.BestPaths.{first_not_text}
use Rattle.fst_batch.proofs.listing.put_text.Given as goal

-- what the arcs that are left write completes the text, and the first label that is no text is among it
abbrev pub invariant-loop-place : goal.invariant-loop-place
invariant-loop-place g l =
    let letters = (chain_of (graph_of (valued g.W.Weight.wide_value l.fst)) (written l.path)).letters in
    record {
      text : l.text.items ++ output (drop l.place letters) ≡ l.initial.text.items ++ output letters;
      label : first_not_text (output (drop l.place letters)) ≡ first_not_text (output letters);
    }
