use Rattle.std.proofs.Common.{◌≡◌, ◌≤◌, ◌+◌, ◌*◌, length, map, drop}
use Rattle.std.specs.List.{flat_map}
use Rattle.fst_machine.specs.Machine.{valued_arc}
use Rattle.fst_binary.specs.Spelling.{arc_fields}
use Rattle.fst_binary.proofs.encoding.arcs_length_each.Given as goal

abbrev pub invariant-loop-arc : goal.invariant-loop-arc
invariant-loop-arc g l =
    let arcs = map (valued_arc g.W.Weight.value) l.arcs in
    let fields = arc_fields g.W.Weight.KIND in
    record {
      counted : l.len + length (flat_map fields (drop l.arc-index arcs)) ≡ length (flat_map fields arcs);
      bound : l.len ≤ 29 * l.arc-index;
    }
