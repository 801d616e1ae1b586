use Rattle.std.proofs.Common.{ap, sym, ◌∙◌}
use Rattle.fst_machine.specs.Machine.{arc_total, Machine}
use Rattle.fst_semiring.specs.Cost.{Cost}
use Rattle.fst_distance.proofs.View.{reads, view_total}
use Rattle.fst_distance.proofs.pushing.Pushing.arc_count.Goals as goal

pub returns : goal.returns
returns g c =
    let w = g.W.Weight in
    let r = reads w.KIND w.value w.wide_value c.self.inside.distances.items _ _ _ c.fst.ensures c.self.invariant c.self.view_is in
    c.arc_count.ensures ∙ (sym (view_total w.KIND w.value w.wide_value c.fst.result.now c.self.inside.distances.items r.size r.has) ∙ ap (λ (m : Machine Cost). arc_total m.states) r.view_is)
