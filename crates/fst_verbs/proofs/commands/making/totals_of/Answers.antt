use Rattle.std.proofs.Common.{arith, sym}
use Rattle.std.proofs.lemmas.Int.{ints}
use Rattle.fst_verbs.proofs.Making.{told-listed, told-unlisted}
use Rattle.fst_verbs.proofs.commands.making.totals_of.Goals as goal
use Rattle.fst_verbs.proofs.commands.making.totals_of.Goals.{in-Some, in_default}

pub loop-place-preserved : goal.loop-place-preserved
loop-place-preserved c =
    elim c.match-first_weight.branch [
      | in-Some w ↦ told-listed c.args.answers.now c.loop-place.place c.index-answers-place.result (omega arith) c.index-answers-place.is _ _ _ _ c.loop-place.invariant w.in-Some.weight
          (sym w.in-Some.ensures.told) w.in-Some.ensures.small w.answered-is (omega (arith, ints, w.in-Some.ensures.small, c.loop-place.invariant.small))
      | in_default w ↦ told-unlisted c.args.answers.now c.loop-place.place c.index-answers-place.result (omega arith) c.index-answers-place.is _ _ _ _ c.loop-place.invariant
          (sym w.in_default.ensures.told) w.answered-is w.weights-is
    ]
