use Rattle.std.proofs.Common.{◌<◌, length, map, refl, arith}
use Rattle.fst_machine.specs.Machine.{valued_state}
use Rattle.fst_nbest.specs.Chains.{chain_at}
use Rattle.fst_nbest.proofs.Remaining.{all_states_more, count_drop, own_room}
use Rattle.fst_nbest.proofs.chaining.put_chains.Goals as goal

pub put_chain-requires-clause-few : goal.put_chain-requires-clause-few
put_chain-requires-clause-few g c =
    let cs = g.C.ChainSource.chains c.args.source.now in
    let low : c.loop-chain.chain < length cs = omega arith in
    let more = count_drop cs c.loop-chain.chain low in
    omega (arith, more)

pub put_chain-requires-clause-room : goal.put_chain-requires-clause-room
put_chain-requires-clause-room g c =
    let cs = g.C.ChainSource.chains c.args.source.now in
    let low : c.loop-chain.chain < length cs = omega arith in
    let more = count_drop cs c.loop-chain.chain low in
    omega (arith, more)

pub overflow_cast-first : goal.overflow_cast-first
overflow_cast-first g c =
    let cs = g.C.ChainSource.chains c.args.source.now in
    let low : c.loop-chain.chain < length cs = omega arith in
    let more = count_drop cs c.loop-chain.chain low in
    omega (arith, more)

pub overflow_add-first : goal.overflow_add-first
overflow_add-first g c =
    let cs = g.C.ChainSource.chains c.args.source.now in
    let low : c.loop-chain.chain < length cs = omega arith in
    let more = count_drop cs c.loop-chain.chain low in
    omega (arith, more)

pub loop-chain-preserved : goal.loop-chain-preserved
loop-chain-preserved g c =
    let value = g.W.Weight.value in
    let cs = g.C.ChainSource.chains c.args.source.now in
    let low : c.loop-chain.chain < length cs = omega arith in
    let chain = chain_at cs c.loop-chain.chain in
    let more = count_drop cs c.loop-chain.chain low in
    let room = own_room value c.loop-chain.states c.put_chain.new.states c.loop-chain.first (length chain.letters) chain.last chain.letters refl c.in_ok-put_chain.ensures in
    record {
      put = all_states_more cs c.loop-chain.chain low c.loop-chain.first c.letter_count.result (map (valued_state value) c.loop-chain.states) (map (valued_state value) c.put_chain.new.states) _ c.letter_count.ensures
          c.loop-chain.invariant.put c.in_ok-put_chain.ensures;
      counted = omega (arith, more, c.letter_count.ensures, c.loop-chain.invariant.counted);
      room = omega (arith, more, room, c.loop-chain.invariant.room);
    }
