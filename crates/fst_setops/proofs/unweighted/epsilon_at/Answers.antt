use Rattle.std.proofs.Common.{arith}
use Rattle.fst_machine.specs.Machine.{most_arcs}
use Rattle.fst_setops.specs.Unweighted.{ReadsEpsilon}
use Rattle.fst_trim.proofs.Places.{few_arcs, above_more, above_all, first_found}
use Rattle.fst_setops.proofs.unweighted.epsilon_at.Goals as goal

pub epsilon_in-requires : goal.epsilon_in-requires
epsilon_in-requires g c = record { few = few_arcs c.args.b.now.states c.loop-state.state most_arcs c.arcs.result.now c.arcs.ensures c.states-state-end.ensures.machine.few_arcs }

pub returns-in-Some : goal.returns-in-Some
returns-in-Some g c = first_found ReadsEpsilon c.args.b.now c.loop-state.state c.in-Some.place c.arcs.result.now c.arcs.ensures c.loop-state.invariant c.in-Some.ensures

pub loop-state-preserved : goal.loop-state-preserved
loop-state-preserved g c = above_more ReadsEpsilon c.args.b.now c.loop-state.state c.arcs.result.now c.arcs.ensures c.loop-state.invariant c.in_default.ensures

pub returns : goal.returns
returns g c = above_all ReadsEpsilon c.args.b.now (λ state place low. c.loop-state.invariant state place (omega (arith, c.states-state-end.ensures.value)))
