use Rattle.std.proofs.Common.{◌≡◌, ◌≤◌, ◌++◌, length, map, drop, vec_capacity}
use Rattle.std.specs.List.{flat_map}
use Rattle.fst_machine.specs.Machine.{valued_arc}
use Rattle.fst_binary.specs.Spelling.{arc_fields}
use Rattle.fst_binary.proofs.encoding.append_arcs.Given as goal

abbrev pub invariant-loop-arc : goal.invariant-loop-arc
invariant-loop-arc g l =
    let arcs = map (valued_arc g.W.Weight.value) l.arcs in
    let fields = arc_fields g.W.Weight.KIND in
    record {
      whole : l.out.items ++ flat_map fields (drop l.arc-index arcs) ≡ l.initial.out.items ++ flat_map fields arcs;
      room : length (l.initial.out.items ++ flat_map fields arcs) ≤ vec_capacity l.out;
      grows : vec_capacity l.initial.out ≤ vec_capacity l.out;
    }
