use Rattle.std.proofs.Common.{arith}
use Rattle.std.proofs.lemmas.Result.{IfOk-weaker}
use Rattle.fst_machine.specs.Machine.{valued}
use Rattle.fst_machine.specs.Graph.{graph_of}
use Rattle.fst_nbest.proofs.PathChains.{chains_IsChained, listed_written}
use Rattle.fst_nbest.proofs.path_chains.chains.Goals as goal

pub returns-clause-paths : goal.returns-clause-paths
returns-clause-paths g c =
    let value = g.W.Weight.value in
    IfOk-weaker c.chain_machine.result _ _ (λ m is. chains_IsChained g.W.Weight.KIND (graph_of (valued value c.args.fst.now)) c.args.paths.now (valued value m) is) c.chain_machine.ensures.machine

pub returns-clause-full : goal.returns-clause-full
returns-clause-full g c =
    let same = listed_written (graph_of (valued g.W.Weight.value c.args.fst.now)) c.args.paths.now in
    (λ e. omega (arith, same, c.chain_machine.ensures.full.0 e), λ more. c.chain_machine.ensures.full.1 (omega (arith, same, more)))
