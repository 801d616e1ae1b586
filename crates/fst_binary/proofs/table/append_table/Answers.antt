use Rattle.std.proofs.Common.{◌≡◌, ◌+◌, ◌++◌, [], ap, drop, length, sym, ◌∙◌, append_assoc, arith}
use Rattle.std.specs.List.{flat_map}
use Rattle.std.proofs.lemmas.List.{append-nil, drop_all, length-append}
use Rattle.fst_bytes.specs.Spelling.{long}
use Rattle.fst_bytes.proofs.Lengths.{length-long}
use Rattle.fst_bytes.proofs.Lists.{item_fits, item_written}
use Rattle.fst_symbols.specs.Symbols.{Symbol}
use Rattle.fst_binary.specs.Tables.{symbol_fields}
use Rattle.fst_binary.proofs.Written.{length-symbol, one_left}
use Rattle.fst_binary.proofs.table.append_table.Goals as goal

pub append_long-requires : goal.append_long-requires
append_long-requires c =
    let n = length-append (long (length c.args.table.now)) (flat_map symbol_fields c.args.table.now) in
    omega (arith, n, length-long (length c.args.table.now), c.requires)

pub append_symbol-requires-clause-room : goal.append_symbol-requires-clause-room
append_symbol-requires-clause-room c =
    let t = c.args.table.now in
    let i = c.loop-index.index in
    let s : Symbol = record { name = c.pair-number.result.0.now; number = c.pair-number.result.1 } in
    let fits = item_fits symbol_fields c.loop-index.out.items s (drop (i + 1) t) (drop i t) _ _ (one_left t i s c.pair-number.ensures.pair) c.loop-index.invariant.whole c.loop-index.invariant.room in
    omega (arith, fits, length-symbol s)

pub loop-index-preserved : goal.loop-index-preserved
loop-index-preserved c =
    let t = c.args.table.now in
    let i = c.loop-index.index in
    let s : Symbol = record { name = c.pair-number.result.0.now; number = c.pair-number.result.1 } in
    let written = item_written symbol_fields c.loop-index.out.items s (drop (i + 1) t) (drop i t) _ (one_left t i s c.pair-number.ensures.pair) c.loop-index.invariant.whole in
    record {
      whole = ap (λ items. items ++ flat_map symbol_fields (drop (i + 1) t)) c.append_symbol.ensures.items ∙ written;
      room = omega (arith, c.loop-index.invariant.room, c.append_symbol.ensures.room);
      grows = omega (arith, c.loop-index.invariant.grows, c.append_symbol.ensures.room);
    }

pub returns-clause-items : goal.returns-clause-items
returns-clause-items c =
    let t = c.args.table.now in
    let none : drop c.loop-index.index t ≡ [] = drop_all c.loop-index.index t (omega (arith, c.loop-index-test.false, c.len-count.ensures.len)) in
    sym (append-nil c.loop-index.out.items) ∙ ap (λ rest. c.loop-index.out.items ++ flat_map symbol_fields rest) (sym none) ∙ c.loop-index.invariant.whole
    ∙ ap (λ items. items ++ flat_map symbol_fields t) (c.append_long.ensures.items ∙ ap (λ n. c.args.out.now.items ++ long n) c.len-count.ensures.len)
    ∙ append_assoc c.args.out.now.items (long (length t)) (flat_map symbol_fields t)
