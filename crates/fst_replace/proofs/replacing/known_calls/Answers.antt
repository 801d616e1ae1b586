use Rattle.fst_replace.proofs.Totalling.{calls_closed, calls_root}
use Rattle.fst_replace.proofs.replacing.known_calls.Goals as goal

pub returns-clause-root : goal.returns-clause-root
returns-clause-root g c = calls_root g.W.Weight.value c.args.rules.now c.count-count.ensures.rules c.in_ok-calls.calls.items c.in_ok-calls.ensures

pub returns-clause-closed : goal.returns-clause-closed
returns-clause-closed g c = calls_closed g.W.Weight.value c.args.rules.now c.count-count.ensures.rules c.in_ok-calls.calls.items c.in_ok-calls.ensures
