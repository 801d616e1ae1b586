use Rattle.std.proofs.Common.{◌≡◌, sym, subst}
use Rattle.fst_semiring.specs.Cost.{Cost}
use Rattle.fst_machine.specs.Machine.{IsMachine, Machine, valued}
use Rattle.fst_machine.proofs.Valued.{IsMachine-unvalued}
use Rattle.fst_distance.specs.Totals.{put_on}
use Rattle.fst_distance.proofs.TotalPut.{placed_machine}
use Rattle.fst_distance.proofs.totalling.with_total.Goals as goal

pub into_machine-requires : goal.into_machine-requires
into_machine-requires g c =
    let w = g.W.Weight in
    let total = w.wide_value c.args.total in
    let m = c.args.pushed.now in
    let same : valued w.value (record { start = c.placed_start.result; states = c.in-Ok.list }) ≡ put_on w.KIND total m c.args.place = λ i. record { start = c.placed_start.ensures total i; states = c.in-Ok.ensures.states i } in
    IsMachine-unvalued w.value (record { start = c.placed_start.result; states = c.in-Ok.list })
    (subst (λ (n : Machine Cost). IsMachine (λ v. v) n) (sym same) (placed_machine w.KIND total m c.states-states.ensures.machine c.args.place c.requires.some c.requires.among c.requires.few_states c.requires.few_arcs))
