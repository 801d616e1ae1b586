use Rattle.std.proofs.Common.{subst, ℕ}
use Rattle.fst_machine.specs.Machine.{Arc}
use Rattle.fst_bytes.specs.Spelling.{HasField}
use Rattle.fst_bytes.proofs.Lists.{item_more}
use Rattle.fst_binary.proofs.encoding.arcs_have_fields.Goals as goal

pub loop-arc-preserved : goal.loop-arc-preserved
loop-arc-preserved g c =
    let i = c.loop-arc.arc-index in
    let own : HasField g.W.Weight.KIND (g.W.Weight.value c.arc.inside.weight) = (c.widen-wide.ensures.kind, c.widen-wide.ensures.range) in
    record {
      fits = item_more (λ a. HasField g.W.Weight.KIND (g.W.Weight.value a.weight)) c.args.arcs.now i c.arc-item.result c.loop-arc-test.true c.arc-item.is c.loop-arc.invariant.fits (subst (λ (a : Arc g.row.W.Denot ℕ). HasField g.W.Weight.KIND (g.W.Weight.value a.weight)) c.arc.view_is own);
    }
