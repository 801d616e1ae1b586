use Rattle.std.proofs.Common.{subst}
use Rattle.fst_queue.proofs.HeapMembers.{entries_taken, states_Apart, states_taken}
use Rattle.fst_queue.specs.Heap.{entries_of, states_of, TakesBest}
use Rattle.fst_queue.specs.Members.{Takes}
use Rattle.fst_queue.proofs.best_first.BestFirstStateQueue.take.Goals as goal

pub returns-clause-takes : goal.returns-clause-takes
returns-clause-takes c = subst (λ old. Takes (states_of old) c.leave.result (states_of (entries_of c.self.inside.keys.items c.leave.new.heap.items))) c.self.view_is (states_taken c.self.inside.keys.items c.self.inside.heap.items c.leave.new.heap.items c.leave.result c.leave.ensures.takes)

pub returns-clause-apart : goal.returns-clause-apart
returns-clause-apart c = states_Apart c.self.inside.keys.items c.leave.new.heap.items c.leave.new.places.items _ c.leave.ensures.heaped.linked

pub returns-clause-best : goal.returns-clause-best
returns-clause-best c = subst (λ old. TakesBest old c.leave.result (entries_of c.self.inside.keys.items c.leave.new.heap.items)) c.self.view_is (entries_taken c.self.inside.keys.items c.self.inside.heap.items c.leave.new.heap.items c.leave.result c.leave.ensures.takes c.leave.ensures.best)
