use Rattle.fst_nbest.proofs.BestHops.{tight_ready}
use Rattle.fst_nbest.proofs.looking.counts_ahead.Goals as goal

pub returns : goal.returns
returns g c =
    tight_ready g.W.Weight.KIND c.requires.cancels g.M.AsMachine.value g.W.Weight.wide_value g.M.Widens.known (g.M.AsMachine.machine c.args.fst.now) c.state_count-states.ensures.good c.args.dist.now.items c.requires.measured
    c.in_ok-counts.counts.items c.in_ok-counts.ensures.size c.in_ok-counts.ensures.least
