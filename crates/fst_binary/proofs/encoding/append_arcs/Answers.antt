use Rattle.std.proofs.Common.{◌+◌, ◌++◌, map, drop, ap, ◌∙◌, arith}
use Rattle.std.specs.List.{flat_map}
use Rattle.fst_machine.specs.Machine.{valued_arc}
use Rattle.fst_binary.specs.Spelling.{arc_fields}
use Rattle.fst_bytes.proofs.Lists.{item_fits, item_left, item_written}
use Rattle.fst_binary.proofs.encoding.append_arcs.Goals as goal

pub append_arc-requires : goal.append_arc-requires
append_arc-requires g c =
    let arcs = map (valued_arc g.W.Weight.value) c.args.arcs.now in
    let left = item_left (valued_arc g.W.Weight.value) c.args.arcs.now c.loop-arc.arc-index c.arc-item.result c.loop-arc-test.true c.arc-item.is in
    item_fits (arc_fields g.W.Weight.KIND) c.loop-arc.out.items (valued_arc g.W.Weight.value c.arc-item.result) (drop (c.loop-arc.arc-index + 1) arcs) (drop c.loop-arc.arc-index arcs) _ _ left c.loop-arc.invariant.whole c.loop-arc.invariant.room

pub loop-arc-preserved : goal.loop-arc-preserved
loop-arc-preserved g c =
    let fields = arc_fields g.W.Weight.KIND in
    let arcs = map (valued_arc g.W.Weight.value) c.args.arcs.now in
    let arc = valued_arc g.W.Weight.value c.arc-item.result in
    let left = item_left (valued_arc g.W.Weight.value) c.args.arcs.now c.loop-arc.arc-index c.arc-item.result c.loop-arc-test.true c.arc-item.is in
    let written = item_written fields c.loop-arc.out.items arc (drop (c.loop-arc.arc-index + 1) arcs) (drop c.loop-arc.arc-index arcs) _ left c.loop-arc.invariant.whole in
    record {
      whole = ap (λ items. items ++ flat_map fields (drop (c.loop-arc.arc-index + 1) arcs)) c.append_arc.ensures.items ∙ written;
      room = omega (arith, c.loop-arc.invariant.room, c.append_arc.ensures.room);
      grows = omega (arith, c.loop-arc.invariant.grows, c.append_arc.ensures.room);
    }
