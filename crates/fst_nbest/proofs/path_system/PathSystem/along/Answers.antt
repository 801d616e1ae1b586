use Rattle.std.proofs.Common.{sym, subst, lit≤, ◌+◌}
use Rattle.fst_semiring.specs.Cost.{Cost}
use Rattle.fst_semiring.specs.Semiring.{Within}
use Rattle.fst_semiring.proofs.Ranges.{Within-more, Within-times}
use Rattle.fst_nbest.specs.Ready.{most_distance, most_weight}
use Rattle.fst_nbest.proofs.path_system.PathSystem.along.Goals as goal

pub wide_times-requires-clause-b_wide : goal.wide_times-requires-clause-b_wide
wide_times-requires-clause-b_wide g c = Within-more most_distance 1329227995784915872903807060280344575 (g.W.Weight.wide_value c.distance.result) (lit≤ tt) c.distance.ensures.range

pub returns-clause-range : goal.returns-clause-range
returns-clause-range g c =
    let w = g.W.Weight.wide_value c.widened.result in
    subst (λ (v : Cost). Within (most_weight + most_distance) v) (sym c.wide_times.ensures.product)
    (Within-times g.W.Weight.KIND most_weight most_distance w (g.W.Weight.wide_value c.distance.result) (Within-more g.M.Widens.bound most_weight w g.met.M.Widens.few c.widened.ensures.range) c.distance.ensures.range)
