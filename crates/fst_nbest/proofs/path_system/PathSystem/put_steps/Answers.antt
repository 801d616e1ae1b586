use Rattle.std.proofs.Common.{◌≡◌, ◌+◌, ℕ, length, ap, subst, arith}
use Rattle.fst_machine.specs.Machine.{most_arcs, valued}
use Rattle.fst_machine.specs.Graph.{graph_of}
use Rattle.fst_trim.proofs.Places.{few_arcs}
use Rattle.fst_nbest.specs.PathWords.{path_words}
use Rattle.fst_nbest.specs.Ready.{Prepared, count_in, dist_in}
use Rattle.fst_nbest.specs.Turns.{AreTurnsBelow}
use Rattle.fst_nbest.proofs.Gathered.{arcs_length}
use Rattle.fst_nbest.proofs.TurnLists.{turns_next}
use Rattle.fst_nbest.proofs.path_system.PathSystem.put_steps.Goals as goal

pub overflow_cast-count : goal.overflow_cast-count
overflow_cast-count g c =
    let m = g.M.AsMachine.machine c.self.inside.fst.now in
    let few = few_arcs m.states c.args.state most_arcs c.arcs_at.result.now c.arcs_at.ensures c.state_count-states.ensures.good.few_arcs in
    omega (arith, few)

pub loop-place-preserved : goal.loop-place-preserved
loop-place-preserved g c =
    let wide = g.W.Weight.wide_value in
    let s = c.args.self.now in
    turns_next g.W.Weight.KIND (path_words (graph_of (valued g.M.AsMachine.value s.machine)) (dist_in wide s.dist)) (dist_in wide s.dist) (count_in s.count) wide c.args.state (c.loop-place.place + 1) c.loop-place.turns.items c.put_step.new.turns.items
    c.loop-place.invariant c.in_ok-put_step.ensures

pub returns : goal.returns
returns g c =
    let wide = g.W.Weight.wide_value in
    let value = g.M.AsMachine.value in
    let s = c.args.self.now in
    let m = g.M.AsMachine.machine c.self.inside.fst.now in
    let seen = ap (λ (p : Prepared g.row.V.Denot g.row.W-Wide.Denot). length ((graph_of (valued value p.machine)).arcs c.args.state)) c.self.view_is in
    let many = arcs_length value m c.args.state c.arcs_at.result.now c.arcs_at.ensures in
    let e : c.loop-place.place + 1 ≡ 1 + length ((graph_of (valued value s.machine)).arcs c.args.state) = omega (arith, seen, many, c.loop-place-test.false, c.loop-place.auto.place-end) in
    subst (λ (k : ℕ). AreTurnsBelow g.W.Weight.KIND (path_words (graph_of (valued value s.machine)) (dist_in wide s.dist)) (dist_in wide s.dist) (count_in s.count) wide c.args.state k c.loop-place.turns.items) e c.loop-place.invariant
