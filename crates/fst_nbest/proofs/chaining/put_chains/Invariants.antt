use Rattle.std.proofs.Common.{◌≡◌, ◌≤◌, ◌+◌, ◌++◌, drop, map}
use Rattle.fst_machine.specs.Machine.{arc_total, valued_state}
use Rattle.fst_nbest.specs.Chains.{arcs_listed, all_states}
use Rattle.fst_nbest.proofs.chaining.put_chains.Given as goal

abbrev pub invariant-loop-chain : goal.invariant-loop-chain
invariant-loop-chain g l =
    let cs = g.C.ChainSource.chains l.source in
    record {
      put : map (valued_state g.W.Weight.value) l.states ++ all_states l.first (drop l.chain cs) ≡ map (valued_state g.W.Weight.value) l.initial.states ++ all_states 1 cs;
      counted : l.first + arcs_listed (drop l.chain cs) ≡ 1 + arcs_listed cs;
      room : arc_total l.states + arcs_listed (drop l.chain cs) ≤ arc_total l.initial.states + arcs_listed cs;
    }
