use Rattle.std.proofs.Common.{◌≡◌}
use Rattle.std.specs.Prelude.{drop}
use Rattle.fst_words.specs.Plans.{texts_differ}
use Rattle.fst_words.proofs.rules.names_differ.Given as goal

abbrev pub invariant-loop-place : goal.invariant-loop-place
invariant-loop-place l = texts_differ (drop l.start l.names) ≡ texts_differ (drop l.place l.names)
