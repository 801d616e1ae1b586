-- Machines under labels. (OpenFst manual, "Replace": a list of labels with their machines, of which one is the
-- root.)
use Rattle.std.specs.Prelude.{◌≡◌, ℕ, ◌<◌, ◌≤◌, nat_eq, List, Option, length, map, All, get_or}
use Rattle.std.specs.List.{IsDistinct, position}
use Rattle.fst_semiring.specs.Cost.{Cost}
use Rattle.fst_machine.specs.Machine.{Machine, IsMachine, greatest_label, no_states, valued}

-- A machine under a label, with weights of type V.
pub record Labelled (V : Type 0) : Type 0 where
  pub label : ℕ
  pub machine : Machine V

-- the labels, in order
abbrev pub labels_of : {V : Type 0} → List (Labelled V) → List ℕ
labels_of rules = map (λ r. r.label) rules

-- What holds of every list of rules: it has a first one, which is the root, no two labels are the same, and no
-- label is epsilon.
pub record IsRules {V : Type 0} (value : V → Cost) (rules : List (Labelled V)) : Type 0 where
  pub root : 0 < length rules
  pub distinct : IsDistinct nat_eq (labels_of rules)
  pub labels : All (λ l. (0 < l) × (l ≤ greatest_label)) (labels_of rules)
  pub machines : All (λ r. IsMachine value r.machine) rules

-- the place of the rule with this label
abbrev pub place_of : List ℕ → ℕ → Option ℕ
place_of labels label = position (nat_eq label) labels

-- They are rules, and a table has the place of each label, and of no other.
pub record AreKept {V : Type 0} (value : V → Cost) (list : List (Labelled V)) (places : ℕ → Option ℕ) : Type 0 where
  pub rules : IsRules value list
  pub found : (n : ℕ) → places n ≡ place_of (labels_of list) n

-- the machine of the rule in this place
abbrev pub machine_at : {V : Type 0} → List (Labelled V) → ℕ → Machine V
machine_at rules i = (get_or rules i (record { label = 0; machine = no_states })).machine

-- the same with each weight as its value
abbrev pub valued_rules : {V : Type 0} → (V → Cost) → List (Labelled V) → List (Labelled Cost)
valued_rules value rules = map (λ r. record { label = r.label; machine = valued value r.machine }) rules
