use Rattle.fst_nbest.proofs.Fronts.{front_next, front_wide}
use Rattle.fst_nbest.proofs.path_system.PathSystemSystemWide.step.Goals as goal

pub wide_times-requires-clause-a_wide : goal.wide_times-requires-clause-a_wide
wide_times-requires-clause-a_wide g c = front_wide g.W.Weight.wide_value g.W.Weight.KIND c.args.front c.requires.bound

pub returns-clause-bound : goal.returns-clause-bound
returns-clause-bound g c depth bounded =
    front_next g.W.Weight.wide_value g.W.Weight.KIND c.args.front c.wide_times.result (g.W.Weight.wide_value c.widened.result) g.M.Widens.bound depth c.wide_times.ensures.product c.wide_times.ensures.kind g.met.M.Widens.few c.widened.ensures.range bounded
