use Rattle.std.proofs.Common.{ap, ◌∙◌}
use Rattle.fst_machine.specs.Machine.{valued}
use Rattle.fst_machine.specs.Graph.{graph_of}
use Rattle.fst_nbest.specs.Chains.{Chain}
use Rattle.fst_nbest.proofs.PathChains.{chain_seen, path_low, walk_there}
use Rattle.fst_nbest.proofs.path_chains.PathChainsChainSource.last.Goals as goal

pub item-requires : goal.item-requires
item-requires g c = path_low (graph_of (valued g.W.Weight.value c.self.inside.fst.now)) c.self.inside.paths.now c.args.self.now c.args.chain c.self.view_is c.requires

pub end_weight-requires : goal.end_weight-requires
end_weight-requires g c = walk_there (graph_of (valued g.W.Weight.value c.self.inside.fst.now)) c.self.inside.paths.now c.args.chain c.item.result.now c.self.invariant c.item.ensures

pub returns : goal.returns
returns g c =
    let graph = graph_of (valued g.W.Weight.value c.self.inside.fst.now) in
    c.end_weight.ensures ∙ ap (λ (d : Chain). d.last) (chain_seen graph c.self.inside.paths.now c.args.self.now c.args.chain c.item.result.now c.self.view_is c.item.ensures)
