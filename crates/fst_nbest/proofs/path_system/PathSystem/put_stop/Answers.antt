use Rattle.std.proofs.Common.{sym, ap, ◌∙◌, refl}
use Rattle.fst_semiring.specs.Cost.{is_infinite}
use Rattle.fst_machine.specs.Machine.{valued}
use Rattle.fst_machine.specs.Graph.{graph_of}
use Rattle.fst_nbest.specs.Ready.{count_in, dist_in}
use Rattle.fst_nbest.proofs.Preparing.{stop_none, stop_some}
use Rattle.fst_nbest.proofs.path_system.PathSystem.put_stop.Goals as goal

pub returns-then-is_zero_wide : goal.returns-then-is_zero_wide
returns-then-is_zero_wide g c =
    let wide = g.W.Weight.wide_value in
    let s = c.args.self.now in
    stop_none wide g.W.Weight.KIND (graph_of (valued g.M.AsMachine.value s.machine)) (dist_in wide s.dist) (count_in s.count) _ c.args.turns.now.items (sym c.if-is_zero_wide.true ∙ (c.is_zero_wide.ensures ∙ ap is_infinite c.last-total.ensures.same))

pub returns : goal.returns
returns g c =
    let wide = g.W.Weight.wide_value in
    let s = c.args.self.now in
    stop_some wide g.W.Weight.KIND (graph_of (valued g.M.AsMachine.value s.machine)) (dist_in wide s.dist) (count_in s.count) _ _ c.args.turns.now.items c.push.new.self.items (sym c.if-is_zero_wide.false ∙ (c.is_zero_wide.ensures ∙ ap is_infinite c.last-total.ensures.same))
    c.last-total.ensures.same refl refl c.in_ok-push.ensures.items
