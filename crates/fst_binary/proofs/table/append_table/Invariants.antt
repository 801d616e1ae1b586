use Rattle.std.proofs.Common.{◌≡◌, ◌≤◌, ◌++◌, length, drop, vec_capacity}
use Rattle.std.specs.List.{flat_map}
use Rattle.fst_binary.specs.Tables.{symbol_fields}
use Rattle.fst_binary.proofs.table.append_table.Given as goal

abbrev pub invariant-loop-index : goal.invariant-loop-index
invariant-loop-index l = record {
  whole : l.out.items ++ flat_map symbol_fields (drop l.index l.table) ≡ l.initial.out.items ++ flat_map symbol_fields l.table;
  room : length (l.initial.out.items ++ flat_map symbol_fields l.table) ≤ vec_capacity l.out;
  grows : vec_capacity l.initial.out ≤ vec_capacity l.out;
}
