use Rattle.std.proofs.Common.{◌≡◌, ◌+◌, ℕ, length, sym, ap, ◌∙◌, subst, arith}
use Rattle.fst_semiring.specs.Cost.{Cost}
use Rattle.fst_semiring.specs.declared.arc_type.ArcType.TheVariants.{Boolean}
use Rattle.fst_machine.specs.Machine.{most_arcs, valued}
use Rattle.fst_machine.specs.Graph.{graph_of}
use Rattle.fst_trim.proofs.Places.{few_arcs}
use Rattle.fst_nbest.specs.Classes.{Counted, class_words, is_counted, state_at, unit}
use Rattle.fst_nbest.specs.Counts.{count_of}
use Rattle.fst_nbest.specs.Turns.{AreTurnsBelow}
use Rattle.fst_nbest.proofs.Gathered.{arcs_length}
use Rattle.fst_nbest.proofs.TurnLists.{turns_next}
use Rattle.fst_nbest.proofs.class_system.ClassSystem.put_steps.Goals as goal

pub overflow_cast-count : goal.overflow_cast-count
overflow_cast-count g c =
    let m = g.M.AsMachine.machine c.self.inside.fst.now in
    let few = few_arcs m.states c.parted-state.result.0 most_arcs c.arcs_at.result.now c.arcs_at.ensures c.state_count.ensures.good.few_arcs in
    omega (arith, few)

pub loop-place-preserved : goal.loop-place-preserved
loop-place-preserved g c =
    let s = c.args.self.now in
    turns_next Boolean (class_words (graph_of (valued g.M.AsMachine.value s.machine)) (length s.machine.states) s.total (is_counted s.counts)) (λ x. unit) (count_of s.counts) (λ (t : Cost). t) c.args.name (c.loop-place.place + 1) c.loop-place.turns.items c.put_step.new.turns.items
    c.loop-place.invariant c.in_ok-put_step.ensures

pub returns : goal.returns
returns g c =
    let value = g.M.AsMachine.value in
    let s = c.args.self.now in
    let m = g.M.AsMachine.machine c.self.inside.fst.now in
    let seen = ap (λ (p : Counted g.row.V.Denot). length ((graph_of (valued value p.machine)).arcs (state_at (length p.machine.states) c.args.name))) c.self.view_is in
    let state : c.parted-state.result.0 ≡ state_at (length m.states) c.args.name = c.parted-state.ensures.state ∙ ap (λ (k : ℕ). state_at k c.args.name) c.state_count.ensures.count in
    let many = ap (λ (q : ℕ). length ((graph_of (valued value m)).arcs q)) (sym state) ∙ arcs_length value m c.parted-state.result.0 c.arcs_at.result.now c.arcs_at.ensures in
    let e : c.loop-place.place + 1 ≡ 1 + length ((graph_of (valued value s.machine)).arcs (state_at (length s.machine.states) c.args.name)) = omega (arith, seen, many, c.loop-place-test.false, c.loop-place.auto.place-end) in
    subst (λ (k : ℕ). AreTurnsBelow Boolean (class_words (graph_of (valued value s.machine)) (length s.machine.states) s.total (is_counted s.counts)) (λ x. unit) (count_of s.counts) (λ (t : Cost). t) c.args.name k c.loop-place.turns.items) e c.loop-place.invariant
