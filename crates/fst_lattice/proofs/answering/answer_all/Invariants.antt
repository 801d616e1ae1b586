use Rattle.std.proofs.Common.{◌≡◌, length, map}
use Rattle.std.specs.Vec.Iter.{into_iter_items, into_iter_len}
use Rattle.fst_lattice.specs.Runs.{IsAnswerAt}
use Rattle.fst_lattice.proofs.Shares.{AreCollecting}
use Rattle.fst_lattice.proofs.answering.answer_all.Given as goal

abbrev pub invariant-loop-share : goal.invariant-loop-share
invariant-loop-share g l = record {
  collecting : AreCollecting (IsAnswerAt (g.A.Answering.answers l.answering l.delayed) l.lines) l.workers l.initial.answers.items l.answers.items (map (λ s. s.answers) (into_iter_items l.share-iterator));
  left : into_iter_len l.share-iterator ≡ length (into_iter_items l.share-iterator);
}
