use Rattle.std.proofs.Common.{arith}
use Rattle.fst_replace.proofs.Counting.{has_at}
use Rattle.fst_replace.proofs.totals.total_of.Goals as goal

pub number_at-requires : goal.number_at-requires
number_at-requires c = c.requires.brought _ (has_at c.args.places.now c.loop-place.place-index (omega arith))

pub number_at-requires-in-loop-place : goal.number_at-requires-in-loop-place
number_at-requires-in-loop-place c = c.requires.totals _ (has_at c.args.places.now c.loop-place.place-index (omega arith))
