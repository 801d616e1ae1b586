use Rattle.std.proofs.Common.{◌≡◌, ◌++◌, map, drop}
use Rattle.std.specs.List.{flat_map}
use Rattle.fst_codex.specs.Spelling.{entry_fields}
use Rattle.fst_codex.specs.Table.{valued_entry}
use Rattle.fst_codex.proofs.writing.push_entries.Given as goal

abbrev pub invariant-loop-entry : goal.invariant-loop-entry
invariant-loop-entry g l =
    let entries = map (valued_entry g.W.Weight.value) l.entries in
    let fields = entry_fields g.W.Weight.KIND l.weights in
    l.out.items ++ flat_map fields (drop l.entry-index entries) ≡ l.initial.out.items ++ flat_map fields entries
