use Rattle.std.proofs.Common.{◌+◌, ℕ, length, map, drop, ap, arith}
use Rattle.std.specs.List.{flat_map}
use Rattle.fst_machine.specs.Machine.{Arc, valued_arc}
use Rattle.fst_binary.specs.Spelling.{arc_fields}
use Rattle.fst_bytes.specs.Spelling.{weight_field}
use Rattle.fst_bytes.proofs.Lists.{item_counted, item_left}
use Rattle.fst_binary.proofs.Lengths.{length-arc_fields}
use Rattle.fst_binary.proofs.encoding.arcs_length_each.Goals as goal

pub loop-arc-preserved : goal.loop-arc-preserved
loop-arc-preserved g c =
    let fields = arc_fields g.W.Weight.KIND in
    let i = c.loop-arc.arc-index in
    let arcs = map (valued_arc g.W.Weight.value) c.args.arcs.now in
    let arc = valued_arc g.W.Weight.value c.arc-item.result in
    let left = item_left (valued_arc g.W.Weight.value) c.args.arcs.now i c.arc-item.result c.loop-arc-test.true c.arc-item.is in
    let counted = item_counted fields c.loop-arc.len arc (drop (i + 1) arcs) (drop i arcs) (length (flat_map fields arcs)) left c.loop-arc.invariant.counted in
    let weight = ap (λ (a : Arc g.row.W.Denot ℕ). length (weight_field g.W.Weight.KIND (g.W.Weight.value a.weight))) c.arc.view_is in
    let long = length-arc_fields g.W.Weight.KIND arc in
    record {
      counted = omega (arith, counted, long, weight, c.weight_length.ensures.value);
      bound = omega (arith, c.loop-arc.invariant.bound, c.weight_length.ensures.bound);
    }
