use Rattle.std.proofs.Common.{List, ◌≡◌, ◌++◌, ◌∷◌, [], All, map, sym, subst, arith}
use Rattle.std.proofs.lemmas.Result.{err_from_is_err_and}
use Rattle.std.proofs.lemmas.List.{map_push}
use Rattle.std.proofs.lemmas.List.Elements.{All-push}
use Rattle.fst_bytes.proofs.Lengths.{length_push}
use Rattle.fst_codex.specs.Reading.{entries_at, entry_at}
use Rattle.fst_codex.specs.Table.{Entry, IsEntry, valued_entry}
use Rattle.fst_bytes.proofs.Loops.{many_are_read, many_end, many_go_on}
use Rattle.fst_codex.proofs.reading.read_entries.Goals as goal

pub returns-in_err-entry-clause-value : goal.returns-in_err-entry-clause-value
returns-in_err-entry-clause-value g c =
    let p = err_from_is_err_and c.from_residual-in_err-entry.result c.from_residual-in_err-entry.ensures.1 in
    rw (p.1, p.2) (many_end (entry_at g.W.Weight.KIND c.args.weights c.args.bytes.now) (map (valued_entry g.W.Weight.value) c.loop.entries.items) c.args.count c.loop.counter c.loop.behind c.in_err-entry.field-0.0 (entries_at g.W.Weight.KIND c.args.weights c.args.count c.args.bytes.now c.args.at) c.loop-test.true (sym c.in_err-entry.ensures.value) c.loop.invariant.so_far)

pub loop-preserved : goal.loop-preserved
loop-preserved g c =
    let value = g.W.Weight.value in
    let kind = g.W.Weight.KIND in
    let entry = c.in_ok-entry.entry in
    let more : map (valued_entry value) c.push.new.self.items ≡ map (valued_entry value) c.loop.entries.items ++ valued_entry value entry ∷ [] = rw c.in_ok-push.ensures.items (map_push (valued_entry value) c.loop.entries.items entry) in
    record {
      so_far = rw more (many_go_on (entry_at kind c.args.weights c.args.bytes.now) (map (valued_entry value) c.loop.entries.items) c.args.count c.loop.counter c.loop.behind (valued_entry value entry) c.in_ok-entry.after (entries_at kind c.args.weights c.args.count c.args.bytes.now c.args.at) c.loop-test.true (sym c.in_ok-entry.ensures.value) c.loop.invariant.so_far);
      good = subst (λ (es : List (Entry g.row.W.Denot)). All (IsEntry kind value c.args.weights) es) (sym c.in_ok-push.ensures.items) (All-push (IsEntry kind value c.args.weights) c.loop.entries.items entry c.loop.invariant.good c.in_ok-entry.ensures.good);
      count = omega (arith, length_push _ _ entry c.in_ok-push.ensures.items, c.loop.invariant.count);
      behind = c.in_ok-entry.ensures.behind;
    }

pub returns-clause-value : goal.returns-clause-value
returns-clause-value g c = many_are_read (entry_at g.W.Weight.KIND c.args.weights c.args.bytes.now) (map (valued_entry g.W.Weight.value) c.loop.entries.items) c.args.count c.loop.counter c.loop.behind (entries_at g.W.Weight.KIND c.args.weights c.args.count c.args.bytes.now c.args.at) c.loop-test.false c.loop.invariant.so_far
