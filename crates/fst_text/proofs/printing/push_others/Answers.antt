use Rattle.std.proofs.Common.{arith, ◌++◌, map}
use Rattle.fst_machine.specs.Machine.{valued_state}
use Rattle.fst_text.specs.Printed.{other_entries, text_of_entries}
use Rattle.fst_text.proofs.Prints.{others-fault, others-named, others-pushed}
use Rattle.fst_text.proofs.printing.push_others.Goals as goal

pub loop-state-preserved : goal.loop-state-preserved
loop-state-preserved g c =
    let value = g.W.Weight.value in
    let kind = g.W.Weight.KIND in
    let options = c.args.options.now in
    let start = c.args.start in
    let states = c.args.fst.now.states in
    record {
      text = others-pushed value kind options start c.loop-state.state states (c.args.out.now.items ++ text_of_entries kind options (other_entries start 0 (map (valued_state value) states))) c.loop-state.out.items c.push_other.new.out.items (omega (arith, c.states-state-end.ensures.value)) (rw c.in-Ok.is at c.in_ok-push_other.ensures.text) c.loop-state.invariant.text;
      named = others-named value options start c.loop-state.state states (omega (arith, c.states-state-end.ensures.value)) (rw c.in-Ok.is at c.in_ok-push_other.ensures.named) c.loop-state.invariant.named;
    }

pub returns-in-Err-clause-named : goal.returns-in-Err-clause-named
returns-in-Err-clause-named g c = others-fault g.W.Weight.value c.args.options.now c.args.start c.loop-state.state c.args.fst.now.states (omega (arith, c.states-state-end.ensures.value)) (rw c.in-Err.is at c.in_ok-push_other.ensures.named) c.loop-state.invariant.named
