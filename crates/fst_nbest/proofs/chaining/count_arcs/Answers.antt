use Rattle.std.proofs.Common.{◌<◌, length, arith}
use Rattle.fst_nbest.proofs.Remaining.{count_drop}
use Rattle.fst_nbest.proofs.chaining.count_arcs.Goals as goal

pub returns-then-len-count : goal.returns-then-len-count
returns-then-len-count g c =
    let cs = g.C.ChainSource.chains c.args.source.now in
    let low : c.loop-chain.chain < length cs = omega arith in
    let more = count_drop cs c.loop-chain.chain low in
    omega (arith, more)

pub loop-chain-preserved : goal.loop-chain-preserved
loop-chain-preserved g c =
    let cs = g.C.ChainSource.chains c.args.source.now in
    let low : c.loop-chain.chain < length cs = omega arith in
    let more = count_drop cs c.loop-chain.chain low in
    record { counted = omega (arith, more); few = omega (arith, more) }
