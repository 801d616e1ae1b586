use Rattle.std.proofs.Common.{◌≡◌, drop}
use Rattle.fst_semiring.specs.Cost.{infinite}
use Rattle.fst_nbest.specs.Chains.{final_of}
use Rattle.fst_nbest.proofs.chaining.start_final.Given as goal

abbrev pub invariant-loop-chain : goal.invariant-loop-chain
invariant-loop-chain g l =
    let cs = g.C.ChainSource.chains l.source in
    final_of (g.W.Weight.value l.last) (drop l.chain cs) ≡ final_of infinite cs
