use Rattle.std.proofs.Common.{◌<◌, length, sym, ap, subst, arith}
use Rattle.fst_semiring.specs.Cost.{Cost}
use Rattle.fst_semiring.specs.Semiring.{Within}
use Rattle.fst_nbest.specs.Ready.{most_distance}
use Rattle.fst_nbest.proofs.Preparing.{dist_is}
use Rattle.fst_select.specs.Outlook.{OutlookAs}
use Rattle.fst_select.proofs.outlook.Outlook.distance.Goals as goal

pub returns-clause-range : goal.returns-clause-range
returns-clause-range g c =
    let measured = c.self.invariant.0.measured in
    let states = ap (λ (o : OutlookAs g.row.W.Denot g.row.W-Wide.Denot). length o.machine.states) c.self.view_is in
    let low : c.args.state < length c.self.inside.dist.items = omega (arith, measured.dist_size, states, c.requires) in
    subst (λ (v : Cost). Within most_distance v) (sym (dist_is g.W.Weight.wide_value c.self.inside.dist.items c.args.state c.index.result.now low c.index.ensures)) (measured.numbers c.args.state)
