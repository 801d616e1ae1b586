-- The states to which the arcs of each state lead, side by side.
use Rattle.std.specs.Prelude.{◌≡◌, ℕ, ◌+◌, ◌≤◌, List, length, map, take, get_or}
use Rattle.std.specs.List.{flat_map}
use Rattle.fst_machine.specs.Machine.{State}

-- for each state the states to which its arcs lead, in order
abbrev pub targets_from : {V : Type 0} → List (State V) → List (List ℕ)
targets_from states = map (λ s. map (λ a. a.next) s.arcs) states

-- one list after the other
abbrev pub joined : {X : Type 0} → List (List X) → List X
joined lists = flat_map (λ list. list) lists

-- The lists stand side by side, and it is known where each begins, and where the last ends.
pub record IsJoined {X : Type 0} (lists : List (List X)) (firsts : List ℕ) (whole : List X) : Type 0 where
  pub size : length firsts ≡ length lists + 1
  pub all : whole ≡ joined lists
  pub places : (q : ℕ) → q ≤ length lists → get_or firsts q 0 ≡ length (joined (take q lists))
