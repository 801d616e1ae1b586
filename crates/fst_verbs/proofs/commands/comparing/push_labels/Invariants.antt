use Rattle.std.proofs.Common.{◌≡◌, ◌++◌, drop}
use Rattle.std.specs.List.{flat_map}
use Rattle.fst_verbs.specs.Comparing.{labels_text, next_label_text}
use Rattle.fst_verbs.proofs.commands.comparing.push_labels.Given as goal

-- the labels that are left complete what is appended
abbrev pub invariant-loop-place : goal.invariant-loop-place
invariant-loop-place l = l.out.items ++ flat_map next_label_text (drop l.place l.labels) ≡ l.fn.out.items ++ labels_text l.labels
