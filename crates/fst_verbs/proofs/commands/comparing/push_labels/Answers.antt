use Rattle.fst_batch.proofs.LeftTexts.{texts_more}
use Rattle.fst_verbs.specs.Comparing.{next_label_text}
use Rattle.fst_verbs.proofs.commands.comparing.push_labels.Goals as goal

pub loop-place-preserved : goal.loop-place-preserved
loop-place-preserved c = texts_more next_label_text c.args.labels.now c.loop-place.place c.item-in-loop-place.result.now c.loop-place.out.items c.push_next_label.new.out.items _ c.item-in-loop-place.ensures c.loop-place.invariant c.in_ok-push_next_label.ensures
