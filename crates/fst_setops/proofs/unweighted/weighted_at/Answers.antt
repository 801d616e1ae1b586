use Rattle.std.proofs.Common.{◌≡◌, true, false, sym, ◌∙◌, arith}
use Rattle.fst_machine.specs.Machine.{valued}
use Rattle.fst_trim.proofs.Places.{none_more}
use Rattle.fst_setops.specs.Unweighted.{HasWeights}
use Rattle.fst_setops.proofs.Unweighing.{none_weighted, unweighted_here, weighted_here}
use Rattle.fst_setops.proofs.unweighted.weighted_at.Goals as goal

pub returns-then-not-is_unweighted : goal.returns-then-not-is_unweighted
returns-then-not-is_unweighted g c = (
  weighted_here g.W.Weight.KIND g.W.Weight.value c.args.b.now.states c.loop-state.state c.final_weight.result c.arcs.result.now c.final_weight.ensures c.arcs.ensures
      (λ plain. let wrong : true ≡ false = sym (c.is_unweighted.ensures.1 plain) ∙ c.if-not-is_unweighted.true in cc),
  c.loop-state.invariant,
)

pub loop-state-preserved : goal.loop-state-preserved
loop-state-preserved g c =
    none_more (HasWeights g.W.Weight.KIND) (valued g.W.Weight.value c.args.b.now).states c.loop-state.state c.loop-state.invariant
    (unweighted_here g.W.Weight.KIND g.W.Weight.value c.args.b.now.states c.loop-state.state c.final_weight.result c.arcs.result.now c.final_weight.ensures c.arcs.ensures (c.is_unweighted.ensures.0 c.if-not-is_unweighted.false))

pub returns : goal.returns
returns g c = none_weighted g.W.Weight.KIND g.W.Weight.value c.args.b.now c.loop-state.state (omega (arith, c.states-state-end.ensures.value)) c.loop-state.invariant
