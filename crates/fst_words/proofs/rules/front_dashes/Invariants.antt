use Rattle.std.proofs.Common.{◌≡◌, ◌≤◌}
use Rattle.std.specs.Prelude.{count_by, take}
use Rattle.fst_words.specs.Plans.{is_dash}
use Rattle.fst_words.proofs.rules.front_dashes.Given as goal

abbrev pub invariant-loop-place : goal.invariant-loop-place
invariant-loop-place l = (l.count ≡ count_by is_dash (take l.place l.names)) × (l.count ≤ l.place)
