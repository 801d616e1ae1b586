use Rattle.std.proofs.Common.{refl, arith}
use Rattle.fst_queue.proofs.HeapPuts.{heaped_grown}
use Rattle.fst_queue.proofs.heap.insert.Goals as goal

pub returns-in_err-grow_places-clause-heaped : goal.returns-in_err-grow_places-clause-heaped
returns-in_err-grow_places-clause-heaped c = heaped_grown c.args.heap.now.items c.args.places.now.items c.grow_places.new.places.items c.args.keys.now.items c.args.keys.now.items c.requires c.grow_places.ensures.longer c.grow_places.ensures.same (omega arith) (λ q. refl)

pub returns-in_err-grow_keys-clause-heaped : goal.returns-in_err-grow_keys-clause-heaped
returns-in_err-grow_keys-clause-heaped c = heaped_grown c.args.heap.now.items c.args.places.now.items c.grow_places.new.places.items c.args.keys.now.items c.grow_keys.new.keys.items c.requires c.grow_places.ensures.longer c.grow_places.ensures.same c.grow_keys.ensures.longer c.grow_keys.ensures.same

pub enter-requires-clause-heaped : goal.enter-requires-clause-heaped
enter-requires-clause-heaped c = heaped_grown c.args.heap.now.items c.args.places.now.items c.grow_places.new.places.items c.args.keys.now.items c.grow_keys.new.keys.items c.requires c.grow_places.ensures.longer c.grow_places.ensures.same c.grow_keys.ensures.longer c.grow_keys.ensures.same

pub rekey-requires-clause-heaped : goal.rekey-requires-clause-heaped
rekey-requires-clause-heaped c = heaped_grown c.args.heap.now.items c.args.places.now.items c.grow_places.new.places.items c.args.keys.now.items c.grow_keys.new.keys.items c.requires c.grow_places.ensures.longer c.grow_places.ensures.same c.grow_keys.ensures.longer c.grow_keys.ensures.same
