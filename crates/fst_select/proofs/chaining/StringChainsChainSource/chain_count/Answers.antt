use Rattle.std.proofs.Common.{List, length, sym, ap, subst, ◌∙◌}
use Rattle.fst_nbest.specs.Chains.{Chain, HaveLetters}
use Rattle.fst_select.proofs.StringChains.{chains-length}
use Rattle.fst_select.proofs.chaining.StringChainsChainSource.chain_count.Goals as goal

pub returns-clause-count : goal.returns-clause-count
returns-clause-count g c = c.len.ensures ∙ (sym (chains-length g.W.Weight.KIND g.W.Weight.wide_value c.self.inside.strings.now) ∙ ap (λ (cs : List Chain). length cs) c.self.view_is)

pub returns-clause-letters : goal.returns-clause-letters
returns-clause-letters g c = subst HaveLetters c.self.view_is c.self.invariant.0
