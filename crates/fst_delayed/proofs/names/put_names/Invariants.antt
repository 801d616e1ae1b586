use Rattle.std.proofs.Common.{◌≡◌, ◌++◌, take}
use Rattle.fst_machine.specs.BreadthFirst.{Apart}
use Rattle.fst_delayed.proofs.names.put_names.Given as goal

abbrev pub invariant-loop-place : goal.invariant-loop-place
invariant-loop-place l = record {
  names : l.names ≡ l.initial.names ++ take l.place l.more;
  apart : Apart l.names;
}
