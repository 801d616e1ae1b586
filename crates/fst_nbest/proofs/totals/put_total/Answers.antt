use Rattle.fst_nbest.proofs.TotalHeaps.{put_here, put_keeps}
use Rattle.fst_nbest.proofs.totals.put_total.Goals as goal

pub returns-clause-keeps : goal.returns-clause-keeps
returns-clause-keeps g c = put_keeps g.W.Weight.wide_value c.args.totals.now.items c.put.new.items.items c.args.weight c.in_ok-put.ensures.same

pub returns-clause-here : goal.returns-clause-here
returns-clause-here g c may = put_here g.W.Weight.wide_value c.args.totals.now.items c.put.new.items.items c.args.weight c.in_ok-put.ensures.same
