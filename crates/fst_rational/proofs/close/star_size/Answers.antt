use Rattle.std.proofs.Common.{refl, ap, ◌∙◌}
use Rattle.fst_rational.specs.Limits.{start_count}
use Rattle.fst_rational.proofs.Closing.{star_counted}
use Rattle.fst_rational.proofs.close.star_size.Goals as goal

pub returns : goal.returns
returns g c = star_counted g.W.Weight.value g.W.Weight.KIND c.args.a.now _ _ c.states-states.result c.arc_count.result c.count_onward.result c.entries.result c.states-states.ensures.value c.arc_count.ensures c.count_onward.ensures.count (c.entries.ensures ∙ ap start_count c.start.ensures.value) refl refl
