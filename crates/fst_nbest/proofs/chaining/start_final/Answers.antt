use Rattle.std.proofs.Common.{◌<◌, length, arith}
use Rattle.fst_nbest.proofs.Remaining.{final_more}
use Rattle.fst_nbest.proofs.chaining.start_final.Goals as goal

pub loop-chain-preserved : goal.loop-chain-preserved
loop-chain-preserved g c =
    let value = g.W.Weight.value in
    let cs = g.C.ChainSource.chains c.args.source.now in
    let low : c.loop-chain.chain < length cs = omega arith in
    final_more cs c.loop-chain.chain low (value c.loop-chain.last) _ _ c.loop-chain.invariant c.start_final_by-last.ensures
