use Rattle.fst_nbest.proofs.Walks.{begun_more}
use Rattle.fst_nbest.proofs.walking.begin.Goals as goal

pub loop-i-preserved : goal.loop-i-preserved
loop-i-preserved c = begun_more c.args.listed.now c.args.path c.loop-i.i c.item-before.result.now c.loop-i.word c.push.new.self c.item.result.now c.item-before.ensures c.item.ensures c.in_ok-push.ensures.ok c.loop-i.invariant
