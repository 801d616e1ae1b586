use Rattle.std.proofs.Common.{◌≡◌, ◌≤◌, ◌-◌, [], length}
use Rattle.fst_binary.specs.Tables.{with_symbols_at}
use Rattle.fst_binary.proofs.table.read_symbols.Given as goal

-- the symbols so far, and those that are left, are all
abbrev pub invariant-loop : goal.invariant-loop
invariant-loop l = record {
  so_far : with_symbols_at (l.count - l.counter) l.table l.bytes l.behind ≡ with_symbols_at l.count [] l.bytes l.at;
  behind : l.behind ≤ length l.bytes;
}
