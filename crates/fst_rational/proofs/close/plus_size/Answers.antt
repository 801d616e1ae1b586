use Rattle.std.proofs.Common.{refl}
use Rattle.fst_rational.proofs.Closing.{plus_counted}
use Rattle.fst_rational.proofs.close.plus_size.Goals as goal

pub returns : goal.returns
returns g c = plus_counted g.W.Weight.value c.args.a.now _ _ c.arc_count.result c.count_onward.result c.start.result c.states-states.ensures.value c.arc_count.ensures c.start.ensures.value c.count_onward.ensures.count refl
