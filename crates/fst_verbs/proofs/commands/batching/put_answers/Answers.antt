use Rattle.std.proofs.Common.{arith}
use Rattle.fst_trim.proofs.Places.{read_here}
use Rattle.fst_verbs.proofs.Batched.{lines_more}
use Rattle.fst_verbs.proofs.commands.batching.put_answers.Goals as goal

pub loop-place-preserved : goal.loop-place-preserved
loop-place-preserved g c =
    lines_more g.W.Weight.KIND g.W.Weight.value c.args.answers.now c.loop-place.place _ c.loop-place.out.items c.put_answer_lines.new.out.items _ _ _ (omega arith) (read_here c.args.answers.now c.loop-place.place c.index-answers-place.result (omega arith) c.index-answers-place.is) c.loop-place.invariant c.in_ok-put_answer_lines.ensures
