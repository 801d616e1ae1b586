-- Laws of codes and of the names of a delayed machine.
use Rattle.std.specs.Prelude.{◌≡◌, ℕ, ◌≤◌}
use Rattle.fst_machine.specs.Machine.{most_states}
use Rattle.fst_compose.specs.NameLaws.{IsNameBelow}
use Rattle.fst_compose.specs.Names.{Name}
use Rattle.fst_delayed.specs.Coding.{code_of}

-- names of states of machines have different codes
abbrev pub CodesDiffer : ℕ → ℕ → Type 0
CodesDiffer states others = states ≤ most_states → others ≤ most_states → (n m : Name ℕ ℕ) → IsNameBelow states others n
    → IsNameBelow states others m → code_of n ≡ code_of m → n ≡ m
