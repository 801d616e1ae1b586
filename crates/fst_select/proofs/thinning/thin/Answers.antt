use Rattle.std.proofs.Common.{sym, ap, ap₂, ◌∙◌, subst₂}
use Rattle.fst_machine.specs.Machine.{IsMachine, valued}
use Rattle.fst_distance.specs.Values.{value_in}
use Rattle.fst_select.proofs.ThinnedMachine.{thinned_is_machine, thinned-valued}
use Rattle.fst_select.proofs.thinning.thin.Goals as goal

pub into_machine-requires : goal.into_machine-requires
into_machine-requires g c =
    let w = g.W.Weight in
    subst₂ (λ st ss. IsMachine w.value (record { start = st; states = ss })) (sym c.start.ensures.value) (sym c.in_ok-states.ensures)
    (thinned_is_machine w.value c.zero-none.result w.KIND (w.wide_value c.args.bound) (value_in w.wide_value c.args.from_start.now) (value_in w.wide_value c.args.to_finals.now) c.args.fst.now c.states-states.ensures.machine)

pub returns : goal.returns
returns g c =
    let w = g.W.Weight in
    ap (valued w.value) (c.into_machine.ensures ∙ ap₂ (λ st ss. record { start = st; states = ss }) c.start.ensures.value c.in_ok-states.ensures)
    ∙ thinned-valued w.value c.zero-none.result c.zero-none.ensures w.KIND (w.wide_value c.args.bound) (value_in w.wide_value c.args.from_start.now) (value_in w.wide_value c.args.to_finals.now) c.args.fst.now
