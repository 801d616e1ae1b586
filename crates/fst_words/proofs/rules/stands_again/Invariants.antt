use Rattle.std.proofs.Common.{◌≡◌, ◌+◌}
use Rattle.std.specs.Prelude.{drop}
use Rattle.std.specs.List.{list_any}
use Rattle.std.specs.Str.{bytes_eq}
use Rattle.fst_words.proofs.rules.stands_again.Given as goal

abbrev pub invariant-loop-other : goal.invariant-loop-other
invariant-loop-other l =
    list_any (λ other. bytes_eq other l.name) (drop (l.place + 1) l.names) ≡ list_any (λ other. bytes_eq other l.name) (drop l.other l.names)
