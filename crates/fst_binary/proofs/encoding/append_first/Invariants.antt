use Rattle.std.proofs.Common.{◌≡◌, ◌≤◌, ◌++◌, length, map, drop, vec_capacity}
use Rattle.std.specs.List.{flat_map}
use Rattle.fst_machine.specs.Machine.{valued_state}
use Rattle.fst_binary.specs.Spelling.{state_fields}
use Rattle.fst_binary.proofs.encoding.append_first.Given as goal

abbrev pub invariant-loop-place : goal.invariant-loop-place
invariant-loop-place g l =
    let states = map (valued_state g.W.Weight.value) (g.S.States.states l.states) in
    let fields = state_fields g.W.Weight.KIND in
    record {
      whole : l.out.items ++ flat_map fields (drop l.place states) ≡ l.initial.out.items ++ flat_map fields states;
      room : length (l.initial.out.items ++ flat_map fields states) ≤ vec_capacity l.out;
      grows : vec_capacity l.initial.out ≤ vec_capacity l.out;
    }
