use Rattle.std.proofs.Common.{sym, ◌∙◌}
use Rattle.fst_command.proofs.Meters.{no_success, run_ended, run_refused}
use Rattle.fst_command.proofs.Showing.{runs-done, runs-refused}
use Rattle.fst_command.proofs.top.finish.Goals as goal

pub returns-in-Ok-clause-meter : goal.returns-in-Ok-clause-meter
returns-in-Ok-clause-meter g c = run_ended _ _ _ _ _ c.in-Ok.ensures.meter

pub returns-in-Err-clause-meter : goal.returns-in-Err-clause-meter
returns-in-Err-clause-meter g c = run_refused _ _ c.in-Err.refusal _ _ _ (λ zero. no_success c.in-Err.ensures.works.answer c.in-Err.refusal c.in-Err.ensures.works.ends (sym c.status.ensures ∙ zero)) c.in-Err.ensures.meter

pub returns-in-Ok-clause-runs : goal.returns-in-Ok-clause-runs
returns-in-Ok-clause-runs g c = runs-done _ (g.D.Desk.seen c.args.desk.now) (g.D.Desk.seen c.work.new.desk) c.in-Ok.status c.in-Ok.ensures.works

pub returns-in-Err-clause-runs : goal.returns-in-Err-clause-runs
returns-in-Err-clause-runs g c = runs-refused _ (g.D.Desk.seen c.args.desk.now) (g.D.Desk.seen c.work.new.desk) (g.D.Desk.seen c.show.new.self) c.in-Err.refusal c.line-line.result.now c.show.result c.status.result c.in-Err.ensures.works c.line-line.ensures c.show.ensures c.status.ensures
