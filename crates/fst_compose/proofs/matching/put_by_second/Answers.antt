use Rattle.fst_compose.proofs.Segments.{name_whole, ok_more, seconds_front}
use Rattle.fst_compose.proofs.matching.put_by_second.Goals as goal

pub returns-clause-put : goal.returns-clause-put
returns-clause-put g c =
    let run = c.find_run-last.ensures.run in
    let seconds = seconds_front g.W.Weight.KIND g.W.Weight.value c.args.key c.args.bs.now c.find_run-last.result.1 run.within run.after in
    ok_more c.put_seconds.result _ _ (λ put. name_whole _ _ _ _ _ _ seconds c.in_ok-put_all_found.ensures.put put) c.put_seconds.ensures
