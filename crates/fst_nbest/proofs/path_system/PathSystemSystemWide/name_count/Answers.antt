use Rattle.std.proofs.Common.{subst}
use Rattle.fst_machine.specs.Machine.{valued}
use Rattle.fst_machine.specs.Graph.{graph_of}
use Rattle.fst_nbest.specs.PathWords.{path_words}
use Rattle.fst_nbest.specs.Ready.{Prepared, count_in, dist_in}
use Rattle.fst_nbest.specs.Words.{AreWords}
use Rattle.fst_nbest.proofs.PathWords.{paths_are_words}
use Rattle.fst_nbest.proofs.path_system.PathSystemSystemWide.name_count.Goals as goal

pub returns-clause-cancel : goal.returns-clause-cancel
returns-clause-cancel g c = c.self.invariant.0

pub returns-clause-good : goal.returns-clause-good
returns-clause-good g c =
    let kind = g.W.Weight.KIND in
    let wide = g.W.Weight.wide_value in
    let value = g.M.AsMachine.value in
    let ready = c.self.invariant.1 in
    let dist = c.self.inside.dist.now.items in
    subst (λ (p : Prepared g.row.V.Denot g.row.W-Wide.Denot). AreWords kind (path_words (graph_of (valued value p.machine)) (dist_in wide p.dist)) (dist_in wide p.dist) (count_in p.count)) c.self.view_is
    (paths_are_words kind (graph_of (valued value (g.M.AsMachine.machine c.self.inside.fst.now))) (dist_in wide dist) ready.measured.exact ready.measured.firm (count_in c.self.inside.count.now.items) ready.counts)
