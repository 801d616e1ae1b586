use Rattle.std.proofs.Common.{sym, ap, ◌∙◌}
use Rattle.fst_machine.specs.Machine.{valued}
use Rattle.fst_nbest.proofs.Building.{chained_none}
use Rattle.fst_nbest.proofs.chaining.chain_machine.Goals as goal

pub returns-then-chain_count-eq0-clause-machine : goal.returns-then-chain_count-eq0-clause-machine
returns-then-chain_count-eq0-clause-machine g c =
    ap (valued g.W.Weight.value) c.new.ensures ∙ chained_none (g.C.ChainSource.chains c.args.source.now) (sym c.chain_count.ensures.count ∙ c.if-chain_count-eq0.true)
