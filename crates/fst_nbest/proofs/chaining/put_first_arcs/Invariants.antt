use Rattle.std.proofs.Common.{◌≡◌, ◌+◌, ◌++◌, drop, map}
use Rattle.fst_machine.specs.Machine.{valued_arc}
use Rattle.fst_nbest.specs.Chains.{arcs_listed, first_arcs}
use Rattle.fst_nbest.proofs.chaining.put_first_arcs.Given as goal

abbrev pub invariant-loop-chain : goal.invariant-loop-chain
invariant-loop-chain g l =
    let cs = g.C.ChainSource.chains l.source in
    record {
      put : map (valued_arc g.W.Weight.value) l.own.items ++ first_arcs l.next (drop l.chain cs) ≡ first_arcs 1 cs;
      counted : l.next + arcs_listed (drop l.chain cs) ≡ 1 + arcs_listed cs;
    }
