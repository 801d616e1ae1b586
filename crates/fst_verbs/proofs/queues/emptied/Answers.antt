use Rattle.std.proofs.Common.{sym, ◌∙◌}
use Rattle.fst_verbs.proofs.Measured.{shorter_after}
use Rattle.fst_verbs.proofs.queues.emptied.Goals as goal

pub loop-smaller : goal.loop-smaller
loop-smaller g c = shorter_after _ c.take.result _ c.take.ensures.takes c.take.ensures.apart (sym c.is_some.ensures ∙ c.loop-test.true)
