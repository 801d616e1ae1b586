use Rattle.std.proofs.Common.{sym, ap, ◌∙◌}
use Rattle.fst_machine.specs.Machine.{arc_total}
use Rattle.fst_distance.specs.Totals.{put_on}
use Rattle.fst_distance.specs.declared.placing.Place.{Place}
use Rattle.fst_distance.proofs.TotalPut.{on_total}
use Rattle.fst_distance.proofs.placing.arc_count.Goals as goal

pub returns-in-Nowhere : goal.returns-in-Nowhere
returns-in-Nowhere g c total = c.arc_count-arcs.ensures ∙ ap (λ (p : Place). arc_total (put_on g.W.Weight.KIND total c.args.pushed.now p).states) (sym c.in-Nowhere.is)

pub returns-in-OnStart : goal.returns-in-OnStart
returns-in-OnStart g c total =
    let k = g.W.Weight.KIND in
    let m = c.args.pushed.now in
    c.arc_count-arcs.ensures ∙ (sym (on_total k total m c.in-OnStart.state) ∙ ap (λ (p : Place). arc_total (put_on k total m p).states) (sym c.in-OnStart.is))
