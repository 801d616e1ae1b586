use Rattle.std.proofs.Common.{◌∙◌, List, ℕ, Vec, Global, arith}
use Rattle.std.proofs.lemmas.List.{length-map}
use Rattle.fst_nbest.proofs.Sorted.{none_more, pushed_size}
use Rattle.fst_nbest.proofs.orders.Orders.new.Goals as goal

abbrev items_of : Vec ℕ Global → List ℕ
items_of v = v.items

pub loop-preserved : goal.loop-preserved
loop-preserved c = record {
  size = pushed_size c.loop.lists.items c.push.new.self.items _ c.loop.counter c.in_ok-push.ensures.items c.loop.invariant.size;
  empty = none_more items_of c.loop.lists.items _ c.push.new.self.items c.in_ok-push.ensures.items c.new.ensures.items c.loop.invariant.empty;
}

pub returns-clause-size : goal.returns-clause-size
returns-clause-size c = length-map c.loop.lists.items items_of ∙ omega (arith, c.loop.invariant.size)
