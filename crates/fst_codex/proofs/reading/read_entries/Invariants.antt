use Rattle.std.proofs.Common.{◌≡◌, ◌≤◌, ◌-◌, All, length, map}
use Rattle.fst_codex.specs.Reading.{entries_at}
use Rattle.fst_codex.specs.Table.{IsEntry, valued_entry}
use Rattle.fst_bytes.specs.Reading.{with_front}
use Rattle.fst_codex.proofs.reading.read_entries.Given as goal

abbrev pub invariant-loop : goal.invariant-loop
invariant-loop g l =
    record {
      so_far : with_front (map (valued_entry g.W.Weight.value) l.entries.items) (entries_at g.W.Weight.KIND l.weights (l.count - l.counter) l.bytes l.behind) ≡ entries_at g.W.Weight.KIND l.weights l.count l.bytes l.at;
      good : All (IsEntry g.W.Weight.KIND g.W.Weight.value l.weights) l.entries.items;
      count : length l.entries.items ≡ l.counter;
      behind : l.behind ≤ length l.bytes;
    }
