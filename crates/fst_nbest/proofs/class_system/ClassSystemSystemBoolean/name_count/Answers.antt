use Rattle.std.proofs.Common.{length, subst}
use Rattle.fst_semiring.specs.declared.arc_type.ArcType.TheVariants.{Boolean}
use Rattle.fst_machine.specs.Machine.{valued}
use Rattle.fst_machine.specs.Graph.{graph_of}
use Rattle.fst_nbest.specs.Classes.{Counted, class_words, is_counted, unit}
use Rattle.fst_nbest.specs.Counts.{count_of}
use Rattle.fst_nbest.specs.Words.{AreWords}
use Rattle.fst_nbest.proofs.ClassWords.{class_are_words}
use Rattle.fst_nbest.proofs.class_system.ClassSystemSystemBoolean.name_count.Goals as goal

pub returns-clause-good : goal.returns-clause-good
returns-clause-good g c =
    let value = g.M.AsMachine.value in
    let wide = g.W.Weight.wide_value in
    let ready = c.self.invariant in
    let inside = c.self.inside in
    subst (λ (p : Counted g.row.V.Denot). AreWords Boolean (class_words (graph_of (valued value p.machine)) (length p.machine.states) p.total (is_counted p.counts)) (λ x. unit) (count_of p.counts)) c.self.view_is
    (class_are_words value (g.M.AsMachine.machine inside.fst.now) c.state_count-states.ensures.good (wide inside.total) ready.class.solid inside.counts.now.items ready.least)
