use Rattle.std.proofs.Common.{◌≡◌, ◌≤◌, ◌+◌, ◌*◌}
use Rattle.std.specs.Prelude.{count_by, drop}
use Rattle.fst_words.specs.Plans.{is_dash, pair_machines}
use Rattle.fst_words.proofs.rules.machine_dashes.Given as goal

abbrev pub invariant-loop-pair : goal.invariant-loop-pair
invariant-loop-pair l =
    (l.count + count_by is_dash (pair_machines (drop (2 * l.pair) l.names)) ≡ count_by is_dash (pair_machines l.names))
    × (l.count ≤ l.pair)
