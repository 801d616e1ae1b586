use Rattle.std.proofs.Common.{sym, ◌∙◌}
use Rattle.fst_text.proofs.Prints.{few-arcs, split-found, split-later}
use Rattle.fst_text.proofs.printing.split_state.Goals as goal

pub split_arc-requires : goal.split_arc-requires
split_arc-requires g c = few-arcs c.args.fst.now.states c.loop-state.state c.arcs.result.now c.arcs.ensures c.states-state-end.ensures.machine.few_arcs

pub returns-in-Some : goal.returns-in-Some
returns-in-Some g c = sym (split-found g.W.Weight.value c.args.fst.now.states c.loop-state.state c.arcs.result.now c.in-Some.fault c.arcs.ensures c.in-Some.ensures) ∙ c.loop-state.invariant

pub loop-state-preserved : goal.loop-state-preserved
loop-state-preserved g c = sym (split-later g.W.Weight.value c.args.fst.now.states c.loop-state.state c.arcs.result.now c.arcs.ensures c.in-None.ensures) ∙ c.loop-state.invariant
