use Rattle.std.proofs.Common.{◌+◌, sym, ap, subst, lit≤}
use Rattle.fst_semiring.specs.Semiring.{IsWide}
use Rattle.fst_semiring.proofs.Ranges.{Within-more, Within-times}
use Rattle.fst_determinize.specs.Kept.{HeldAs, IsModest}
use Rattle.fst_nbest.specs.Ready.{most_distance}
use Rattle.fst_select.specs.Outlook.{most_by}
use Rattle.fst_select.proofs.outlook.Outlook.through.Given.{Over}
use Rattle.fst_select.proofs.outlook.Outlook.through.Goals.{After-distance}
use Rattle.fst_select.proofs.outlook.Outlook.through.Goals as goal

-- the residual that is read
modest : (g : Over) (c : After-distance g) → IsModest (g.W.Weight.wide_value c.member.inside.residual)
modest g c = subst IsModest (sym (ap (λ (h : HeldAs g.row.W-Wide.Denot). g.W.Weight.wide_value h.residual) c.member.view_is)) c.requires.modest

pub wide_times-rest-requires-clause-a_wide : goal.wide_times-rest-requires-clause-a_wide
wide_times-rest-requires-clause-a_wide g c =
    Within-more 332306998946228968225951765070086144 1329227995784915872903807060280344575 (g.W.Weight.wide_value c.member.inside.residual) (lit≤ tt)
    (modest g (goal.at.wide_times-rest-requires-clause-a_wide g c).After-distance)

pub wide_times-rest-requires-clause-b_wide : goal.wide_times-rest-requires-clause-b_wide
wide_times-rest-requires-clause-b_wide g c = Within-more most_distance 1329227995784915872903807060280344575 (g.W.Weight.wide_value c.distance.result) (lit≤ tt) c.distance.ensures.range

pub wide_times-requires-clause-a_wide : goal.wide_times-requires-clause-a_wide
wide_times-requires-clause-a_wide g c = Within-more most_by 1329227995784915872903807060280344575 (g.W.Weight.wide_value c.args.by) (lit≤ tt) c.requires.range

pub wide_times-requires-clause-b_wide : goal.wide_times-requires-clause-b_wide
wide_times-requires-clause-b_wide g c =
    let residual = g.W.Weight.wide_value c.member.inside.residual in
    let ahead = g.W.Weight.wide_value c.distance.result in
    subst IsWide (sym c.wide_times-rest.ensures.product)
    (Within-more (332306998946228968225951765070086144 + most_distance) 1329227995784915872903807060280344575 _ (lit≤ tt)
    (Within-times g.W.Weight.KIND 332306998946228968225951765070086144 most_distance residual ahead (modest g (goal.at.wide_times-requires-clause-b_wide g c).After-distance) c.distance.ensures.range))
