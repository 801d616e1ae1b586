use Rattle.std.proofs.Common.{◌++◌, ap, sym, ◌∙◌}
use Rattle.fst_replace.specs.Calls.{calls_in, rules_in}
use Rattle.fst_replace.specs.Rules.{labels_of}
use Rattle.fst_replace.proofs.Calling.{called-more}
use Rattle.fst_replace.proofs.calls.called_by.Goals as goal

pub loop-state-preserved : goal.loop-state-preserved
loop-state-preserved g c =
    let labels = labels_of c.args.rules.now in
    c.in_ok-put_called.ensures ∙ (ap (λ zs. zs ++ rules_in (calls_in labels c.arcs.result.now)) c.loop-state.invariant ∙ sym (called-more labels c.args.machine.now.states c.loop-state.state c.arcs.result.now c.arcs.ensures))
