use Rattle.std.proofs.Common.{◌≡◌, true, false, length, refl, sym, ◌∙◌}
use Rattle.fst_semiring.specs.Cost.{infinite}
use Rattle.fst_machine.specs.Graph.{graph_of}
use Rattle.fst_machine.specs.Machine.{valued}
use Rattle.fst_search.proofs.Finishing.{begins_final, begins_not, final_read, on_ok}
use Rattle.fst_search.proofs.measuring.begin_final.Goals as goal

pub returns-then-not-is_open-clause-here : goal.returns-then-not-is_open-clause-here
returns-then-not-is_open-clause-here g c = begins_not c.args.marks.now c.args.state _ _ (λ o. (let wrong : false ≡ true = c.if-not-is_open.ensures.1 o in cc)) c.requires.new

pub returns-then-is_zero_wide-clause-here : goal.returns-then-is_zero_wide-clause-here
returns-then-is_zero_wide-clause-here g c =
    let m = g.M.AsMachine.machine c.args.fst.now in
    let final : (graph_of (valued g.M.AsMachine.value m)).final c.args.state ≡ infinite = final_read g.M.AsMachine.value m.states c.args.state c.final_at.result c.final_at.ensures ∙ (sym c.widened-weight.ensures.same ∙ c.if-is_zero_wide.ensures.zero.0 refl) in
    begins_final c.args.marks.now c.args.state _ _ (c.if-not-is_open.ensures.0 refl) (c.requires.new ∙ sym final)

pub returns-clause-begun : goal.returns-clause-begun
returns-clause-begun g c = on_ok c.begin_at.result _ _ (λ h begun. h (length (g.M.AsMachine.machine c.args.fst.now).states) g.M.Widens.bound c.widened-weight.ensures.range begun) c.begin_at.ensures.begun

pub returns-clause-here : goal.returns-clause-here
returns-clause-here g c =
    let m = g.M.AsMachine.machine c.args.fst.now in
    let final : (graph_of (valued g.M.AsMachine.value m)).final c.args.state ≡ g.W.Weight.wide_value c.widened-weight.result = final_read g.M.AsMachine.value m.states c.args.state c.final_at.result c.final_at.ensures ∙ sym c.widened-weight.ensures.same in
    on_ok c.begin_at.result _ _ (λ h. begins_final c.args.marks.now c.args.state _ _ (c.if-not-is_open.ensures.0 refl) (h.here ∙ sym final)) c.begin_at.ensures.sets

pub returns-clause-below : goal.returns-clause-below
returns-clause-below g c = λ old. c.begin_at.ensures.below (length (g.M.AsMachine.machine c.args.fst.now).states) c.requires.state old
