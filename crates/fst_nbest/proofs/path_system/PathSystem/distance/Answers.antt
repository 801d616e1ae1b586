use Rattle.std.proofs.Common.{◌<◌, length, sym, ap, subst, arith}
use Rattle.fst_semiring.specs.Cost.{Cost}
use Rattle.fst_semiring.specs.Semiring.{Within}
use Rattle.fst_nbest.specs.Ready.{Prepared, most_distance}
use Rattle.fst_nbest.proofs.Preparing.{dist_is}
use Rattle.fst_nbest.proofs.path_system.PathSystem.distance.Goals as goal

pub returns-clause-range : goal.returns-clause-range
returns-clause-range g c =
    let ready = c.self.invariant.1.measured in
    let states = ap (λ (p : Prepared g.row.V.Denot g.row.W-Wide.Denot). length p.machine.states) c.self.view_is in
    let low : c.args.state < length c.self.inside.dist.now.items = omega (arith, ready.dist_size, states, c.requires) in
    subst (λ (v : Cost). Within most_distance v) (sym (dist_is g.W.Weight.wide_value c.self.inside.dist.now.items c.args.state c.index.result.now low c.index.ensures)) (ready.numbers c.args.state)
