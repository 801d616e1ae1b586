use Rattle.std.proofs.Common.{◌≡◌, ◌≤◌, ◌+◌, ◌*◌, length, map, drop, take, All}
use Rattle.std.specs.List.{flat_map}
use Rattle.fst_bytes.specs.Spelling.{HasField}
use Rattle.fst_codex.specs.Spelling.{entry_fields}
use Rattle.fst_codex.specs.Table.{valued_entry}
use Rattle.fst_codex.proofs.writing.entries_length.Given as goal

abbrev pub invariant-loop-entry : goal.invariant-loop-entry
invariant-loop-entry g l =
    let entries = map (valued_entry g.W.Weight.value) l.entries in
    let fields = entry_fields g.W.Weight.KIND l.weights in
    record {
      counted : l.len + length (flat_map fields (drop l.entry-index entries)) ≡ length (flat_map fields entries);
      fits : All (λ e. HasField g.W.Weight.KIND (g.W.Weight.value e.weight)) (take l.entry-index l.entries);
      bound : l.len ≤ 25 * l.entry-index;
    }
