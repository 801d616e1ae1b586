use Rattle.std.proofs.Common.{refl, ap, ◌∙◌}
use Rattle.fst_rational.specs.Limits.{start_count}
use Rattle.fst_rational.proofs.Uniting.{union_counted}
use Rattle.fst_rational.proofs.unite.union_size.Goals as goal

pub returns : goal.returns
returns g c = union_counted g.W.Weight.value g.W.Weight.KIND c.args.a.now c.args.b.now _ _ c.states.result c.states-2.result c.arc_count.result c.arc_count-2.result c.entries.result c.entries-2.result c.states.ensures.value c.states-2.ensures.value c.arc_count.ensures c.arc_count-2.ensures (c.entries.ensures ∙ ap start_count c.start.ensures.value) (c.entries-2.ensures ∙ ap start_count c.start-2.ensures.value) refl refl
