use Rattle.fst_machine.proofs.Arcs.{at_mapped}
use Rattle.fst_nbest.proofs.Walks.{begun_more}
use Rattle.fst_select.specs.declared.strings.StringWeight.{StringWeight}
use Rattle.fst_select.specs.Entries.{words_of}
use Rattle.fst_select.proofs.prefixes.begin.Goals as goal

pub loop-i-preserved : goal.loop-i-preserved
loop-i-preserved g c =
    begun_more (words_of c.args.listed.now) c.args.owner c.loop-i.i c.item.result.now.word c.loop-i.word c.push.new.self c.item-in-loop-i.result.now
    (at_mapped (λ (s : StringWeight _ _). s.word) c.args.listed.now c.args.owner c.item.result.now c.item.ensures) c.item-in-loop-i.ensures c.in_ok-push.ensures.ok c.loop-i.invariant
