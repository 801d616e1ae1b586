use Rattle.std.proofs.Common.{◌≡◌, ◌⊎◌, inl, inr, ℕ, slice_get, sym, ap, ◌∙◌, arith}
use Rattle.std.proofs.lemmas.Bool.{cases_eq}
use Rattle.fst_semiring.specs.Cost.{Cost}
use Rattle.fst_semiring.specs.Semiring.{IsCost}
use Rattle.fst_machine.specs.Machine.{Arc, valued}
use Rattle.fst_machine.specs.Graph.{graph_of}
use Rattle.fst_search.proofs.MachineHops.{arc_good}
use Rattle.fst_nbest.proofs.Gathered.{every_arc}
use Rattle.fst_nbest.proofs.measured.has_better.Goals as goal

pub loop-state-preserved : goal.loop-state-preserved
loop-state-preserved g c q k a low there = by (cases_eq q c.loop-state.state)
  where
    by : (q ≡ c.loop-state.state) ⊎ (q ≡ c.loop-state.state → ⊥) → IsCost g.W.Weight.KIND a.weight
    by (inl e) =
        let m = g.M.AsMachine.machine c.args.fst.now in
        every_arc g.M.AsMachine.value (λ (b : Arc Cost ℕ). IsCost g.W.Weight.KIND b.weight) m c.loop-state.state c.arcs_at.result.now c.arcs_at.ensures c.is_any_better-here.ensures k a
        (ap (λ (p : ℕ). slice_get ((graph_of (valued g.M.AsMachine.value m)).arcs p) k) (sym e) ∙ there)
    by (inr other) = c.loop-state.invariant q k a (let l : (q ≡ c.loop-state.state → ⊥) = other in omega (arith, low, l)) there

pub returns : goal.returns
returns g c q k a there =
    let within = (arc_good g.M.AsMachine.value (g.M.AsMachine.machine c.args.fst.now) c.state_count-state-end.ensures.good q k a there).0 in
    c.loop-state.invariant q k a (omega (arith, within, c.loop-state-test.false, c.state_count-state-end.ensures.count)) there
