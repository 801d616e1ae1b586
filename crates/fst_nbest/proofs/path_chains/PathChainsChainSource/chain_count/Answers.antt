use Rattle.std.proofs.Common.{List, length, sym, ap, subst, ◌∙◌}
use Rattle.fst_machine.specs.Machine.{valued}
use Rattle.fst_machine.specs.Graph.{graph_of}
use Rattle.fst_nbest.specs.Chains.{Chain, HaveLetters}
use Rattle.fst_nbest.proofs.PathChains.{chains-length, letters_there}
use Rattle.fst_nbest.proofs.path_chains.PathChainsChainSource.chain_count.Goals as goal

pub returns-clause-count : goal.returns-clause-count
returns-clause-count g c =
    let graph = graph_of (valued g.W.Weight.value c.self.inside.fst.now) in
    c.len.ensures ∙ (sym (chains-length graph c.self.inside.paths.now) ∙ ap (λ (cs : List Chain). length cs) c.self.view_is)

pub returns-clause-letters : goal.returns-clause-letters
returns-clause-letters g c = subst HaveLetters c.self.view_is (letters_there g.W.Weight.value c.self.inside.fst.now c.self.inside.paths.now c.states-states.ensures.machine c.self.invariant)
