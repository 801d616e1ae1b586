use Rattle.std.proofs.Common.{◌≡◌, ◌<◌, ◌+◌, drop}
use Rattle.fst_machine.specs.Machine.{most_states}
use Rattle.fst_nbest.specs.Chains.{arcs_listed}
use Rattle.fst_nbest.proofs.chaining.count_arcs.Given as goal

abbrev pub invariant-loop-chain : goal.invariant-loop-chain
invariant-loop-chain g l =
    let cs = g.C.ChainSource.chains l.source in
    record {
      counted : l.count + arcs_listed (drop l.chain cs) ≡ arcs_listed cs;
      few : l.count < most_states;
    }
