use Rattle.std.proofs.Common.{◌≡◌, ◌≤◌, ◌<◌, ◌++◌, length, map, vec_capacity}
use Rattle.std.specs.List.{flat_map}
use Rattle.fst_machine.specs.Machine.{valued_state}
use Rattle.fst_binary.specs.Spelling.{state_fields}
use Rattle.fst_binary.proofs.encoding.append_leaving.Given as goal

abbrev pub invariant-loop-left : goal.invariant-loop-left
invariant-loop-left g l =
    let value = g.W.Weight.value in
    let fields = state_fields g.W.Weight.KIND in
    let all = l.initial.out.items ++ flat_map fields (map (valued_state value) l.fn.leaving) in
    record {
      whole : l.out.items ++ flat_map fields (map (valued_state value) l.left) ≡ all;
      room : length all ≤ vec_capacity l.out;
      grows : vec_capacity l.initial.out ≤ vec_capacity l.out;
      some : 0 < l.part;
    }

abbrev pub decreases-loop-left : goal.decreases-loop-left
decreases-loop-left g l = length l.left
