use Rattle.std.proofs.Common.{◌≡◌, true, false, sym, ◌∙◌}
use Rattle.fst_machine.specs.Machine.{valued}
use Rattle.fst_machine.specs.Graph.{graph_of}
use Rattle.fst_trim.proofs.Looking.{look_final}
use Rattle.fst_trim.proofs.Backward.{finals_skip, finals_add}
use Rattle.fst_trim.proofs.useful.find_finals.Goals as goal

pub loop-state-preserved-then-not-is_final : goal.loop-state-preserved-then-not-is_final
loop-state-preserved-then-not-is_final g c =
    let value = g.W.Weight.value in
    let k = c.loop-state.state in
    let read = look_final value c.args.fst.now k c.final_weight.result c.final_weight.ensures in
    record {
      found = finals_skip (graph_of (valued value c.args.fst.now)) k c.loop-state.names.items c.loop-state.invariant.found (λ final. let wrong : false ≡ true = sym c.if-not-is_final.true ∙ c.is_final.ensures.1 (λ e. final (read ∙ e)) in absurd (cc));
      marks = c.loop-state.invariant.marks;
      size = c.loop-state.invariant.size;
    }

pub loop-state-preserved : goal.loop-state-preserved
loop-state-preserved g c =
    let value = g.W.Weight.value in
    let k = c.loop-state.state in
    let f = c.in_ok-find.ensures in
    let read = look_final value c.args.fst.now k c.final_weight.result c.final_weight.ensures in
    record {
      found = finals_add (graph_of (valued value c.args.fst.now)) k c.loop-state.names.items c.find.new.names.items c.loop-state.invariant.found (λ e. c.is_final.ensures.0 c.if-not-is_final.false (sym read ∙ e)) f.grows;
      marks = f.marks;
      size = f.size ∙ c.loop-state.invariant.size;
    }
