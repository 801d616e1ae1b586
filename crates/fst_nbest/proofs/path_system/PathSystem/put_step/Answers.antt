use Rattle.std.proofs.Common.{ℕ, ◌+◌, length, sym, ap, ◌∙◌, refl, arith}
use Rattle.fst_semiring.specs.Cost.{is_infinite}
use Rattle.fst_machine.specs.Machine.{Arc, valued}
use Rattle.fst_machine.specs.Graph.{graph_of}
use Rattle.fst_nbest.specs.Ready.{Prepared, count_in, dist_in}
use Rattle.fst_nbest.proofs.Preparing.{count_there, step_none, step_some}
use Rattle.fst_nbest.proofs.path_system.PathSystem.put_step.Goals as goal

pub returns-then-is_zero_wide : goal.returns-then-is_zero_wide
returns-then-is_zero_wide g c =
    let wide = g.W.Weight.wide_value in
    let s = c.args.self.now in
    step_none wide g.W.Weight.KIND (graph_of (valued g.M.AsMachine.value s.machine)) (dist_in wide s.dist) (count_in s.count) c.args.state c.args.place (c.args.place + 1) _ (omega arith) c.arc-arc.ensures.arc c.args.turns.now.items
    (sym c.if-is_zero_wide.true ∙ (c.is_zero_wide.ensures ∙ (ap is_infinite c.distance.ensures.same ∙ ap (λ (a : Arc _ ℕ). is_infinite (dist_in wide s.dist a.next)) c.arc.view_is)))

pub returns : goal.returns
returns g c =
    let wide = g.W.Weight.wide_value in
    let s = c.args.self.now in
    let states = ap (λ (p : Prepared g.row.V.Denot g.row.W-Wide.Denot). length p.machine.states) c.self.view_is in
    let counts = ap (λ (p : Prepared g.row.V.Denot g.row.W-Wide.Denot). p.count) c.self.view_is in
    let count = count_there c.self.inside.count.now.items s.count _ _ c.arc.inside.next c.arc-arc.result.next c.index.result.now c.self.invariant.1.count_size states c.arc-arc.ensures.next counts (ap (λ (a : Arc _ ℕ). a.next) c.arc.view_is) c.index.ensures in
    step_some wide g.W.Weight.KIND (graph_of (valued g.M.AsMachine.value s.machine)) (dist_in wide s.dist) (count_in s.count) c.args.state c.args.place (c.args.place + 1) _ (omega arith) c.arc-arc.ensures.arc _ c.args.turns.now.items c.push.new.self.items
    (sym c.if-is_zero_wide.false ∙ (c.is_zero_wide.ensures ∙ (ap is_infinite c.distance.ensures.same ∙ ap (λ (a : Arc _ ℕ). is_infinite (dist_in wide s.dist a.next)) c.arc.view_is)))
    c.along.ensures.same (omega (arith, count)) refl c.in_ok-push.ensures.items
