use Rattle.std.proofs.Common.{length}
use Rattle.fst_verbs.proofs.queues.emptied.Given as goal

abbrev pub decreases-loop : goal.decreases-loop
decreases-loop g l = length ((goal.StateQueue-dyn g (l.queue.vtable, l.queue.value)).members l.queue.value)
