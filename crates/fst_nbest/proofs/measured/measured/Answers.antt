use Rattle.fst_nbest.proofs.Gathered.{gathered}
use Rattle.fst_nbest.proofs.measured.measured.Goals as goal

pub returns-then-better-clause-distances : goal.returns-then-better-clause-distances
returns-then-better-clause-distances g c =
    let d = c.in_ok-dist.ensures in
    gathered g.W.Weight.KIND g.M.AsMachine.value g.W.Weight.wide_value g.M.Widens.known g.M.Widens.bound g.met.M.Widens.few (g.M.AsMachine.machine c.args.fst.now) c.state_count-states.ensures.good c.in_ok-dist.dist.items c.in-Ok._marks.items
    d.size c.in-Ok.ensures.size c.in-Ok.ensures.marks d.distances d.numbers d.kinds c.has_better-better.ensures c.requires.known c.requires.finals

pub returns-clause-distances : goal.returns-clause-distances
returns-clause-distances g c =
    let d = c.in_ok-dist-2.ensures in
    gathered g.W.Weight.KIND g.M.AsMachine.value g.W.Weight.wide_value g.M.Widens.known g.M.Widens.bound g.met.M.Widens.few (g.M.AsMachine.machine c.args.fst.now) c.state_count-states.ensures.good c.in_ok-dist-2.dist.items c.in-Ok._marks.items
    d.size c.in-Ok.ensures.size c.in-Ok.ensures.marks d.distances d.numbers d.kinds c.has_better-better.ensures c.requires.known c.requires.finals
