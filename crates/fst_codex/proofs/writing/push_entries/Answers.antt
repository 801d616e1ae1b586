use Rattle.std.proofs.Common.{◌+◌, ◌++◌, map, drop, ap, ◌∙◌}
use Rattle.std.specs.List.{flat_map}
use Rattle.fst_bytes.proofs.Lists.{item_left, item_written}
use Rattle.fst_codex.specs.Spelling.{entry_fields}
use Rattle.fst_codex.specs.Table.{valued_entry}
use Rattle.fst_codex.proofs.writing.push_entries.Goals as goal

pub loop-entry-preserved : goal.loop-entry-preserved
loop-entry-preserved g c =
    let value = g.W.Weight.value in
    let fields = entry_fields g.W.Weight.KIND c.args.weights in
    let i = c.loop-entry.entry-index in
    let entries = map (valued_entry value) c.args.entries.now in
    let entry = valued_entry value c.entry-item.result in
    let left = item_left (valued_entry value) c.args.entries.now i c.entry-item.result c.loop-entry-test.true c.entry-item.is in
    let written = item_written fields c.loop-entry.out.items entry (drop (i + 1) entries) (drop i entries) _ left c.loop-entry.invariant in
    ap (λ items. items ++ flat_map fields (drop (i + 1) entries)) c.in_ok-push_entry.ensures ∙ written
