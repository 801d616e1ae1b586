use Rattle.fst_nbest.proofs.Sweeps.{swept_none, swept_ready}
use Rattle.fst_nbest.proofs.sweeping.swept_by.Goals as goal

pub returns-clause-ready : goal.returns-clause-ready
returns-clause-ready g c =
    let r = c.in_ok-swept.ensures in
    swept_ready g.W.Weight.KIND g.M.AsMachine.value g.W.Weight.wide_value (g.M.AsMachine.machine c.args.fst.now) r.0 c.in_ok-swept.swept.dist.items c.in_ok-swept.swept.count.items r.2 g.M.Widens.known c.requires.firm (c.is_started.ensures c.if-not-is_started.false) r.1 c.requires.known c.requires.finals

pub returns-clause-none : goal.returns-clause-none
returns-clause-none g c =
    let r = c.in_ok-swept.ensures in
    swept_none g.W.Weight.KIND g.M.AsMachine.value g.W.Weight.wide_value (g.M.AsMachine.machine c.args.fst.now) r.0 c.in_ok-swept.swept.dist.items c.in_ok-swept.swept.count.items r.2 g.M.Widens.known c.requires.firm (c.is_started.ensures c.if-not-is_started.false) c.requires.cancels
