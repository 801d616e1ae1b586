use Rattle.std.proofs.Common.{◌≡◌, length, rules}
use Rattle.fst_queue.proofs.HeapPuts.{entered_adds, entered_linked, entered_rising}
use Rattle.fst_queue.proofs.heap.enter.Goals as goal

pub rise-requires-clause-linked : goal.rise-requires-clause-linked
rise-requires-clause-linked c =
    let is_n : c.len-at.result ≡ length c.args.heap.now.items = search rules in
    entered_linked c.args.heap.now.items c.args.places.now.items c.args.keys.now.items c.args.state c.args.key c.requires.heaped c.requires.place c.requires.low c.requires.absent c.push.new.self.items c.len-at.result c.in_ok-push.ensures.items is_n

pub rise-requires-clause-rising : goal.rise-requires-clause-rising
rise-requires-clause-rising c =
    let is_n : c.len-at.result ≡ length c.args.heap.now.items = search rules in
    entered_rising c.args.heap.now.items c.args.places.now.items c.args.keys.now.items c.args.state c.args.key c.requires.heaped c.requires.place c.requires.low c.requires.absent c.push.new.self.items c.len-at.result c.in_ok-push.ensures.items is_n

pub returns-clause-adds : goal.returns-clause-adds
returns-clause-adds c =
    let is_n : c.len-at.result ≡ length c.args.heap.now.items = search rules in
    entered_adds c.args.heap.now.items c.args.places.now.items c.args.keys.now.items c.args.state c.args.key c.requires.heaped c.requires.place c.requires.low c.requires.absent c.push.new.self.items c.len-at.result c.in_ok-push.ensures.items is_n c.rise.new.heap.items c.rise.new.places.items _ c.rise.ensures.linked c.rise.ensures.same
