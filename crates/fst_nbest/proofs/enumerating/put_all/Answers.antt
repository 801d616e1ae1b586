use Rattle.std.proofs.Common.{◌++◌, ◌∷◌}
use Rattle.std.proofs.lemmas.List.Elements.{All-cons}
use Rattle.std.proofs.lemmas.List.Sorted.{All-permutation}
use Rattle.fst_nbest.specs.Entries.{CanCompare}
use Rattle.fst_nbest.proofs.Searches.{all_popped, put_more}
use Rattle.fst_nbest.proofs.enumerating.put_all.Goals as goal

pub put-requires-clause-fits : goal.put-requires-clause-fits
put-requires-clause-fits g c = c.loop-entry.invariant.table

pub put-requires-clause-item : goal.put-requires-clause-item
put-requires-clause-item g c = (all_popped (CanCompare c.args.comparing.now.listed.now c.args.comparing.now.orders.now) c.loop-entry.left.items c.pop.new.self.items c.in-Some.entry c.in-Some.ensures.items c.loop-entry.invariant.left).1

pub loop-entry-preserved : goal.loop-entry-preserved
loop-entry-preserved g c =
    let can = CanCompare c.args.comparing.now.listed.now c.args.comparing.now.orders.now in
    let popped = all_popped can c.loop-entry.left.items c.pop.new.self.items c.in-Some.entry c.in-Some.ensures.items c.loop-entry.invariant.left in
    record {
      heap = c.in_ok-put.ensures.heap;
      table = All-permutation can (c.in-Some.entry ∷ c.loop-entry.table.items) c.put.new.items.items c.in_ok-put.ensures.same (All-cons can c.in-Some.entry c.loop-entry.table.items popped.1 c.loop-entry.invariant.table);
      left = popped.0;
      same = put_more (c.args.left.now.items ++ c.args.table.now.items) c.loop-entry.left.items c.loop-entry.table.items c.pop.new.self.items c.in-Some.entry c.put.new.items.items c.in-Some.ensures.items c.in_ok-put.ensures.same c.loop-entry.invariant.same;
    }
