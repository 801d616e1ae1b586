use Rattle.std.proofs.Common.{◌≡◌, None, map, take}
use Rattle.fst_machine.specs.Graph.{graph_of}
use Rattle.fst_machine.specs.Machine.{valued}
use Rattle.fst_machine.specs.Steps.{written}
use Rattle.fst_nbest.specs.Chains.{chain_of}
use Rattle.fst_batch.specs.BestPaths.{first_not_text, valued_told}
use Rattle.fst_batch.specs.ToldChains.{AreInRange, chain_labels, chain_told}
use Rattle.fst_batch.proofs.listing.list_paths.Given as goal

-- the weights so far are in range, the first label that is no text is known, and where there is none, all is told
abbrev pub invariant-loop-place : goal.invariant-loop-place
invariant-loop-place g l =
    let so_far = take l.place (map (chain_of (graph_of (valued g.W.Weight.wide_value l.fst))) (map written l.paths)) in
    record {
      range : AreInRange g.W.Weight.KIND so_far;
      wrong : l.wrong ≡ first_not_text (chain_labels so_far);
      told : l.wrong ≡ None → map (valued_told g.W.Weight.value) l.answers ≡ map (chain_told g.W.Weight.KIND) so_far;
    }
