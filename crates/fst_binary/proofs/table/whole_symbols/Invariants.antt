use Rattle.std.proofs.Common.{◌≤◌, ◌+◌, ◌*◌, length}
use Rattle.fst_binary.proofs.table.whole_symbols.Given as goal

abbrev pub invariant-loop-whole : goal.invariant-loop-whole
invariant-loop-whole l = record {
  room : 8 * l.whole + l.at ≤ l.behind;
  behind : l.behind ≤ length l.bytes;
}
