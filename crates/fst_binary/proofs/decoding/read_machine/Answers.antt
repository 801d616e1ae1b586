use Rattle.std.proofs.Common.{◌≡◌, ◌≢◌, map, sym, ◌∙◌, arith}
use Rattle.std.proofs.lemmas.Result.{err_from_is_err_and}
use Rattle.fst_machine.specs.Machine.{arc_total, valued_state}
use Rattle.fst_binary.proofs.Decoded.{IsMachine-decoded, machine_ends, machine_goes_on, machine_miscounted}
use Rattle.fst_machine.proofs.Valued.{arc_total-valued}
use Rattle.fst_binary.proofs.decoding.read_machine.Goals as goal

pub returns-in_err-expect_arcs : goal.returns-in_err-expect_arcs
returns-in_err-expect_arcs g c =
    let p = err_from_is_err_and c.from_residual-in_err-expect_arcs.result c.from_residual-in_err-expect_arcs.ensures.1 in
    let value = g.W.Weight.value in
    let states = c.in_ok-states.states in
    let other : arc_total (map (valued_state value) states) ≢ c.args.header.arcs = λ e. c.in_err-expect_arcs.ensures.err.1 (c.arc_count.ensures ∙ sym (arc_total-valued value states) ∙ e) in
    rw (p.1, p.2, c.in_err-expect_arcs.ensures.err.0) (machine_miscounted g.W.Weight.KIND c.args.header c.args.bytes.now c.args.at (map (valued_state value) states) c.in_ok-states.behind c.in_ok-states.ensures.value other)

pub returns-in_err-expect_end : goal.returns-in_err-expect_end
returns-in_err-expect_end g c =
    let p = err_from_is_err_and c.from_residual-in_err-expect_end.result c.from_residual-in_err-expect_end.ensures.1 in
    let value = g.W.Weight.value in
    let states = c.in_ok-states.states in
    let same : arc_total (map (valued_state value) states) ≡ c.args.header.arcs = arc_total-valued value states ∙ sym c.arc_count.ensures ∙ c.in_ok-expect_arcs.ensures.ok in
    rw (p.1, p.2, c.in_err-expect_end.ensures.err.0) (machine_goes_on g.W.Weight.KIND c.args.header c.args.bytes.now c.args.at (map (valued_state value) states) c.in_ok-states.behind c.in_ok-states.ensures.value same c.in_err-expect_end.ensures.err.1)

pub into_machine-requires : goal.into_machine-requires
into_machine-requires g c =
    IsMachine-decoded g.W.Weight.value g.W.Weight.KIND c.args.header c.args.bytes.now c.args.at c.in_ok-states.states c.in_ok-states.behind c.requires.behind (λ i. omega (arith, c.type_inv.bytes i)) c.requires.start c.requires.few_states c.requires.few_arcs c.in_ok-states.ensures.value (sym c.arc_count.ensures ∙ c.in_ok-expect_arcs.ensures.ok)

pub returns : goal.returns
returns g c =
    let value = g.W.Weight.value in
    let states = c.in_ok-states.states in
    let same : arc_total (map (valued_state value) states) ≡ c.args.header.arcs = arc_total-valued value states ∙ sym c.arc_count.ensures ∙ c.in_ok-expect_arcs.ensures.ok in
    rw c.into_machine.ensures (machine_ends g.W.Weight.KIND c.args.header c.args.bytes.now c.args.at (map (valued_state value) states) c.in_ok-states.behind c.in_ok-states.ensures.value same c.in_ok-expect_end.ensures.ok)
