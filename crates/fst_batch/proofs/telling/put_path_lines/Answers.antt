use Rattle.fst_batch.specs.AnswerText.{path_line}
use Rattle.fst_batch.proofs.LeftTexts.{texts_more}
use Rattle.fst_batch.proofs.telling.put_path_lines.Goals as goal

pub loop-place-preserved : goal.loop-place-preserved
loop-place-preserved g c = texts_more (path_line g.W.Weight.KIND g.W.Weight.value c.args.number) c.args.answers.now c.loop-place.place c.item.result.now c.loop-place.out.items c.put_path_line.new.out.items _ c.item.ensures c.loop-place.invariant c.in_ok-put_path_line.ensures
