use Rattle.std.proofs.Common.{◌≡◌, ◌*◌}
use Rattle.std.specs.Prelude.{drop}
use Rattle.fst_words.specs.Plans.{are_labels, pair_labels}
use Rattle.fst_words.proofs.Labels.{are_new_labels}
use Rattle.fst_words.proofs.rules.are_labels.Given as goal

abbrev pub invariant-loop-pair : goal.invariant-loop-pair
invariant-loop-pair l =
    are_labels (pair_labels l.names) ≡ are_new_labels l.seen.keys (pair_labels (drop (2 * l.pair) l.names))
