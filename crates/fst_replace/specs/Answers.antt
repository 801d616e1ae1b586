-- When a replacement is refused. Memory may run out before a cause is found.
use Rattle.std.specs.Prelude.{◌≡◌, ◌⊎◌, ℕ, ◌<◌, ◌≤◌, length, slice_get, List, Some, Result, IsErrOf}
use Rattle.fst_semiring.specs.Cost.{Cost}
use Rattle.fst_machine.specs.Machine.{arc_total, most_arcs, most_states}
use Rattle.fst_replace.specs.declared.fault.ReplaceFault.{ReplaceFault}
use Rattle.fst_replace.specs.declared.fault.ReplaceFault.TheVariants.{Recursive, TooManyStates, TooManyArcs, Memory}
use Rattle.fst_replace.specs.Rules.{Labelled, labels_of}
use Rattle.fst_replace.specs.Calls.{HasNoRecursion, IsFirstRecursive, called}
use Rattle.fst_replace.specs.Expansion.{replaced}

-- The fault comes only where it has its cause, and where it has, nothing but a lack of memory comes before it.
abbrev pub IsExact : {X : Type 0} → Result X ReplaceFault → ReplaceFault → Type 0 → Type 0
IsExact result fault cause = (IsErrOf result fault → cause) × (cause → IsErrOf result fault ⊎ IsErrOf result Memory)

-- the label is that of the first rule that the root reaches and that can call itself
abbrev pub IsRecursiveLabel : List (Labelled Cost) → ℕ → Type 0
IsRecursiveLabel rules label = (i : ℕ) × (slice_get (labels_of rules) i ≡ Some label) × IsFirstRecursive (called rules) i

-- A rule is recursive.
abbrev pub Recurs : {X : Type 0} → List (Labelled Cost) → Result X ReplaceFault → Type 0
Recurs rules result = (label : ℕ) → IsExact result (Recursive label) (IsRecursiveLabel rules label)

-- No rule is recursive, and the defined machine has too many states; or it has not, and has too many arcs.
pub record IsLimited {X : Type 0} (rules : List (Labelled Cost)) (result : Result X ReplaceFault) : Type 0 where
  pub states : IsExact result TooManyStates (HasNoRecursion (called rules) × (most_states < length (replaced rules).states))
  pub arcs : IsExact result TooManyArcs
      (HasNoRecursion (called rules) × (length (replaced rules).states ≤ most_states) × (most_arcs < arc_total (replaced rules).states))

-- what a fault says of the rules; running out of memory is no cause
abbrev pub IsCause : List (Labelled Cost) → ReplaceFault → Type 0
IsCause rules (Recursive label) = IsRecursiveLabel rules label
IsCause rules TooManyStates = HasNoRecursion (called rules) × (most_states < length (replaced rules).states)
IsCause rules TooManyArcs = HasNoRecursion (called rules) × (length (replaced rules).states ≤ most_states) × (most_arcs < arc_total (replaced rules).states)
IsCause rules Memory = ⊥

-- rules with no cause of a fault
pub record IsFine (rules : List (Labelled Cost)) : Type 0 where
  pub free : HasNoRecursion (called rules)
  pub states : length (replaced rules).states ≤ most_states
  pub arcs : arc_total (replaced rules).states ≤ most_arcs
