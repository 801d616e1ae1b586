use Rattle.std.proofs.Common.{length, sym, ap, ◌∙◌}
use Rattle.fst_distance.specs.Totals.{put_on}
use Rattle.fst_distance.specs.declared.placing.Place.{Place}
use Rattle.fst_distance.proofs.TotalPut.{on_count}
use Rattle.fst_distance.proofs.placing.state_count.Goals as goal

pub returns-in-Nowhere : goal.returns-in-Nowhere
returns-in-Nowhere g c total = c.states-states.ensures.value ∙ ap (λ (p : Place). length (put_on g.W.Weight.KIND total c.args.pushed.now p).states) (sym c.in-Nowhere.is)

pub returns-in-OnStart : goal.returns-in-OnStart
returns-in-OnStart g c total =
    let k = g.W.Weight.KIND in
    let m = c.args.pushed.now in
    c.states-states.ensures.value ∙ (sym (on_count k total m c.in-OnStart.state) ∙ ap (λ (p : Place). length (put_on k total m p).states) (sym c.in-OnStart.is))
