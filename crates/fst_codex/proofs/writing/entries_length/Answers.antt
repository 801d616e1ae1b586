use Rattle.std.proofs.Common.{subst, ◌+◌, length, map, drop, ap, arith}
use Rattle.std.specs.List.{flat_map}
use Rattle.fst_bytes.specs.Spelling.{HasField}
use Rattle.fst_bytes.proofs.Lists.{item_counted, item_left, item_more}
use Rattle.fst_codex.specs.Spelling.{entry_fields, weight_part}
use Rattle.fst_codex.specs.Table.{Entry, valued_entry}
use Rattle.fst_codex.proofs.Lengths.{length-entry_fields}
use Rattle.fst_codex.proofs.writing.entries_length.Goals as goal

pub loop-entry-preserved : goal.loop-entry-preserved
loop-entry-preserved g c =
    let kind = g.W.Weight.KIND in
    let value = g.W.Weight.value in
    let fields = entry_fields kind c.args.weights in
    let i = c.loop-entry.entry-index in
    let entries = map (valued_entry value) c.args.entries.now in
    let entry = valued_entry value c.entry-item.result in
    let left = item_left (valued_entry value) c.args.entries.now i c.entry-item.result c.loop-entry-test.true c.entry-item.is in
    let counted = item_counted fields c.loop-entry.len entry (drop (i + 1) entries) (drop i entries) (length (flat_map fields entries)) left c.loop-entry.invariant.counted in
    let weight = ap (λ (e : Entry g.row.W.Denot). length (weight_part kind c.args.weights (value e.weight))) c.entry.view_is in
    let long = length-entry_fields kind c.args.weights entry in
    record {
      counted = omega (arith, counted, long, weight, c.part_length.ensures.value);
      fits = item_more (λ e. HasField kind (value e.weight)) c.args.entries.now i c.entry-item.result c.loop-entry-test.true c.entry-item.is c.loop-entry.invariant.fits (subst (λ (e : Entry g.row.W.Denot). HasField kind (value e.weight)) c.entry.view_is c.part_length.ensures.fits);
      bound = omega (arith, c.loop-entry.invariant.bound, c.part_length.ensures.bound);
    }
