use Rattle.std.proofs.Common.{◌≡◌, subst}
use Rattle.std.proofs.lemmas.Result.{on_ok_weaker}
use Rattle.fst_queue.specs.Heap.{entries_of, key_at, states_of, Rekeys}
use Rattle.fst_queue.specs.Members.{Adds}
use Rattle.fst_queue.proofs.HeapMembers.{entries_put, on_ok_both, states_Apart, states_put}
use Rattle.fst_queue.proofs.best_first.BestFirstStateQueue.put.Goals as goal

pub returns-clause-ok : goal.returns-clause-ok
returns-clause-ok c =
    let new = entries_of c.insert.new.keys.items c.insert.new.heap.items in
    on_ok_weaker c.insert.result (λ (adds : Adds c.self.inside.heap.items c.args.state c.insert.new.heap.items). subst (λ old. Adds (states_of old) c.args.state (states_of new)) c.self.view_is (states_put c.self.inside.keys.items c.insert.new.keys.items c.self.inside.heap.items c.insert.new.heap.items c.args.state adds)) c.insert.ensures.adds

pub returns-clause-apart : goal.returns-clause-apart
returns-clause-apart c = states_Apart c.insert.new.keys.items c.insert.new.heap.items c.insert.new.places.items _ c.insert.ensures.heaped.linked

pub returns-clause-keys : goal.returns-clause-keys
returns-clause-keys c =
    let new = entries_of c.insert.new.keys.items c.insert.new.heap.items in
    on_ok_both c.insert.result (Adds c.self.inside.heap.items c.args.state c.insert.new.heap.items) (key_at c.insert.new.keys.items c.args.state ≡ c.args.key) (Rekeys c.args.self.now c.args.state c.args.key new) (λ adds key. subst (λ old. Rekeys old c.args.state c.args.key new) c.self.view_is (entries_put c.self.inside.keys.items c.insert.new.keys.items c.self.inside.heap.items c.insert.new.heap.items c.args.state c.args.key adds key c.insert.ensures.others)) c.insert.ensures.adds c.insert.ensures.key
