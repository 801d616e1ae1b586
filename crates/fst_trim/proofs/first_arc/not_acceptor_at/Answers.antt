use Rattle.std.proofs.Common.{arith}
use Rattle.fst_machine.specs.Machine.{most_arcs}
use Rattle.fst_trim.specs.FirstArcs.{HasTwoLabels}
use Rattle.fst_trim.proofs.Places.{few_arcs, above_more, above_all, first_found}
use Rattle.fst_trim.proofs.first_arc.not_acceptor_at.Goals as goal

pub split_at-requires : goal.split_at-requires
split_at-requires g c = record { few = few_arcs c.args.a.now.states c.loop-state.state most_arcs c.arcs.result.now c.arcs.ensures c.states-state-end.ensures.machine.few_arcs }

pub returns-in-Some : goal.returns-in-Some
returns-in-Some g c = first_found HasTwoLabels c.args.a.now c.loop-state.state c.in-Some.place c.arcs.result.now c.arcs.ensures c.loop-state.invariant c.in-Some.ensures

pub loop-state-preserved : goal.loop-state-preserved
loop-state-preserved g c = above_more HasTwoLabels c.args.a.now c.loop-state.state c.arcs.result.now c.arcs.ensures c.loop-state.invariant c.in_default.ensures

pub returns : goal.returns
returns g c = above_all HasTwoLabels c.args.a.now (λ state place low. c.loop-state.invariant state place (omega (arith, c.states-state-end.ensures.value)))
