use Rattle.fst_text.proofs.Prints.{arcs-fault, state-named, state-pushed}
use Rattle.fst_text.proofs.printing.push_state.Goals as goal

pub returns-clause-text : goal.returns-clause-text
returns-clause-text g c = state-pushed g.W.Weight.value c.args.options.now c.args.fst.now.states c.args.state c.arcs-arcs.result.now c.final_weight.result c.arcs-arcs.ensures c.final_weight.ensures g.W.Weight.KIND c.args.out.now.items c.push_arcs.new.out.items c.push_final.new.out.items (rw c.in-Ok.is at c.in_ok-push_arcs.ensures.text) c.in_ok-push_final.ensures

pub returns-clause-named : goal.returns-clause-named
returns-clause-named g c = state-named g.W.Weight.value c.args.options.now c.args.fst.now.states c.args.state c.arcs-arcs.result.now c.final_weight.result c.arcs-arcs.ensures c.final_weight.ensures (rw c.in-Ok.is at c.in_ok-push_arcs.ensures.named)

pub returns-in-Err-clause-named : goal.returns-in-Err-clause-named
returns-in-Err-clause-named g c = arcs-fault g.W.Weight.value c.args.options.now c.in-Err.fault c.args.fst.now.states c.args.state c.arcs-arcs.result.now c.arcs-arcs.ensures (rw c.in-Err.is at c.in_ok-push_arcs.ensures.named)
