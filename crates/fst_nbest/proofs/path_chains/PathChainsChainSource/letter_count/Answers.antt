use Rattle.std.proofs.Common.{length, sym, ap, ◌∙◌}
use Rattle.fst_machine.specs.Machine.{valued}
use Rattle.fst_machine.specs.Graph.{graph_of}
use Rattle.fst_nbest.specs.Chains.{Chain}
use Rattle.fst_nbest.proofs.PathChains.{chain_seen, letters-count, path_low}
use Rattle.fst_nbest.proofs.path_chains.PathChainsChainSource.letter_count.Goals as goal

pub item-requires : goal.item-requires
item-requires g c = path_low (graph_of (valued g.W.Weight.value c.self.inside.fst.now)) c.self.inside.paths.now c.args.self.now c.args.chain c.self.view_is c.requires

pub returns : goal.returns
returns g c =
    let graph = graph_of (valued g.W.Weight.value c.self.inside.fst.now) in
    let path = c.item.result.now in
    c.len.ensures ∙ (sym (letters-count graph path) ∙ ap (λ (d : Chain). length d.letters) (chain_seen graph c.self.inside.paths.now c.args.self.now c.args.chain path c.self.view_is c.item.ensures))
