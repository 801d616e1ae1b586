use Rattle.std.proofs.Common.{[]}
use Rattle.std.proofs.lemmas.Result.{err_from_is_err_and}
use Rattle.fst_binary.specs.Tables.{with_symbols_at}
use Rattle.fst_binary.proofs.SymbolLoops.{symbols_are_read, symbols_go_on, symbols_stop}
use Rattle.fst_binary.proofs.table.read_symbols.Goals as goal

pub returns-in_err-after-clause-value : goal.returns-in_err-after-clause-value
returns-in_err-after-clause-value c =
    let p = err_from_is_err_and c.from_residual-in_err-after.result c.from_residual-in_err-after.ensures.1 in
    rw (p.1, p.2) (symbols_stop c.loop.table c.args.bytes.now c.args.count c.loop.counter c.loop.behind (with_symbols_at c.args.count [] c.args.bytes.now c.args.at) c.loop.invariant.so_far c.in_err-after.field-0.0 c.loop-test.true c.in_err-after.ensures.value)

pub loop-preserved : goal.loop-preserved
loop-preserved c = record {
  so_far = symbols_go_on c.loop.table c.args.bytes.now c.args.count c.loop.counter c.loop.behind (with_symbols_at c.args.count [] c.args.bytes.now c.args.at) c.loop.invariant.so_far c.read_symbol.new.table c.in_ok-after.after c.loop-test.true c.in_ok-after.ensures.value;
  behind = c.in_ok-after.ensures.behind;
}

pub returns-clause-value : goal.returns-clause-value
returns-clause-value c =
    symbols_are_read c.loop.table c.args.bytes.now c.args.count c.loop.counter c.loop.behind (with_symbols_at c.args.count [] c.args.bytes.now c.args.at) c.loop.invariant.so_far c.loop-test.false
