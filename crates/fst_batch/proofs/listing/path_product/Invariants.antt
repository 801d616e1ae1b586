use Rattle.std.proofs.Common.{◌≡◌, ◌≤◌, drop, length}
use Rattle.fst_machine.specs.Graph.{graph_of}
use Rattle.fst_machine.specs.Letters.{product}
use Rattle.fst_machine.specs.Machine.{valued}
use Rattle.fst_machine.specs.Steps.{written}
use Rattle.fst_nbest.specs.Chains.{chain_of}
use Rattle.fst_batch.proofs.listing.path_product.Given as goal

-- the product of the arcs behind the place
abbrev pub invariant-loop-place : goal.invariant-loop-place
invariant-loop-place g l = record {
  within : l.place ≤ length l.path;
  product : g.W.Weight.wide_value l.weight ≡ product g.W.Weight.KIND (drop l.place (chain_of (graph_of (valued g.W.Weight.wide_value l.fst)) (written l.path)).letters);
}

abbrev pub decreases-loop-place : goal.decreases-loop-place
decreases-loop-place g l = l.place
