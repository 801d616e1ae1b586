use Rattle.std.proofs.Common.{◌<◌, length, map, arith}
use Rattle.fst_machine.specs.Machine.{valued_arc}
use Rattle.fst_nbest.proofs.Remaining.{count_drop, first_arcs_more}
use Rattle.fst_nbest.proofs.chaining.put_first_arcs.Goals as goal

pub overflow_cast-next : goal.overflow_cast-next
overflow_cast-next g c =
    let cs = g.C.ChainSource.chains c.args.source.now in
    let low : c.loop-chain.chain < length cs = omega arith in
    let more = count_drop cs c.loop-chain.chain low in
    omega (arith, more)

pub overflow_add-next : goal.overflow_add-next
overflow_add-next g c =
    let cs = g.C.ChainSource.chains c.args.source.now in
    let low : c.loop-chain.chain < length cs = omega arith in
    let more = count_drop cs c.loop-chain.chain low in
    omega (arith, more)

pub loop-chain-preserved : goal.loop-chain-preserved
loop-chain-preserved g c =
    let value = g.W.Weight.value in
    let cs = g.C.ChainSource.chains c.args.source.now in
    let low : c.loop-chain.chain < length cs = omega arith in
    let more = count_drop cs c.loop-chain.chain low in
    record {
      put = first_arcs_more cs c.loop-chain.chain low c.loop-chain.next c.letter_count.result (map (valued_arc value) c.loop-chain.own.items) (map (valued_arc value) c.put_first_arc.new.own.items) _ c.letter_count.ensures
          c.loop-chain.invariant.put c.in_ok-put_first_arc.ensures;
      counted = omega (arith, more);
    }
