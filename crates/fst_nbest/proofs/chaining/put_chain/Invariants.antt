use Rattle.std.proofs.Common.{◌≡◌, ◌≤◌, ◌+◌, ◌++◌, drop, map}
use Rattle.fst_machine.specs.Machine.{arc_total, valued_state}
use Rattle.fst_nbest.specs.Chains.{chain_at, own_states, tail_states}
use Rattle.fst_nbest.proofs.chaining.put_chain.Given as goal

abbrev pub invariant-loop-place : goal.invariant-loop-place
invariant-loop-place g l =
    let c = chain_at (g.C.ChainSource.chains l.source) l.chain in
    record {
      put : map (valued_state g.W.Weight.value) l.states ++ tail_states l.state c.last (drop l.place c.letters) ≡ map (valued_state g.W.Weight.value) l.initial.states ++ own_states l.first c.last c.letters;
      number : l.state + 1 ≡ l.first + l.place;
      room : arc_total l.states + 1 ≤ arc_total l.initial.states + l.place;
    }
