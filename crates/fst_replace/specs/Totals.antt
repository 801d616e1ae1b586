-- Sums over calls, and what the code keeps of each rule.
use Rattle.std.specs.Prelude.{◌≡◌, ℕ, ◌+◌, ◌<◌, ◌≤◌, zero, suc, List, [], ◌∷◌, ◌++◌, length, get_or, None, Some, IfSome, reverse, sum_by}
use Rattle.std.specs.List.{flat_map}
use Rattle.fst_semiring.specs.Cost.{Cost}
use Rattle.fst_machine.specs.BreadthFirst.{Has}
use Rattle.fst_machine.specs.Machine.{IsMachine, Machine, State, arc_total}
use Rattle.fst_rational.specs.Changing.{goings}
use Rattle.fst_rational.specs.Limits.{start_count}
use Rattle.fst_replace.specs.Calls.{Calling, Reaches, called}
use Rattle.fst_replace.specs.Expansion.{Shape, blocks, expanded, expansion, replaced, shape_of}
use Rattle.fst_replace.specs.Rules.{Labelled, labels_of, machine_at}

-- the counts are those of the rules of the order: a rule's own, and for each call what it brings and the count of
-- the rule that is called
abbrev pub IsTotal : (ℕ → List ℕ) → List ℕ → List ℕ → List ℕ → (ℕ → ℕ) → Type 0
IsTotal calls own brought order count = (i : ℕ) → Has order i → count i ≡ get_or own i 0 + sum_by (λ j. get_or brought j 0 + count j) (calls i)

-- the totals of the rules of the order are these counts, none of which is above the limit
abbrev pub AreCounts : List ℕ → (ℕ → ℕ) → ℕ → List ℕ → Type 0
AreCounts order count most totals = (i : ℕ) → Has order i → (get_or totals i 0 ≡ count i) × (count i ≤ most)

-- how many states, and how many arcs, the expansion of the rule in this place has
abbrev pub states_in : List (Labelled Cost) → ℕ → ℕ
states_in rules i = length (expansion rules (length rules) i).states

abbrev pub arcs_in : List (Labelled Cost) → ℕ → ℕ
arcs_in rules i = arc_total (expansion rules (length rules) i).states

-- how many arcs a call of this machine brings: that to its start, and those from its final states
abbrev pub brings : Machine Cost → ℕ
brings m = start_count m.start + goings (Some 0) m.states

-- what is kept of the rule in this place
abbrev pub shape_at : List Shape → ℕ → Shape
shape_at shapes i = get_or shapes i (record { start = None; size = 0 })

-- the starts of these rules are among their states
abbrev pub HasStarts : (ℕ → Shape) → List ℕ → Type 0
HasStarts shape rules = (i : ℕ) → Has rules i → IfSome (shape i).start (λ s. s < (shape i).size)

-- the call with its state so many places further on
abbrev pub shifted : ℕ → Calling → Calling
shifted k c = record { rule = c.rule; next = k + c.next }

-- the call, if its block has states
abbrev pub standing_call : ℕ → Calling → List Calling
standing_call zero c = []
standing_call (suc n) c = c ∷ []

-- those of the calls whose blocks have states
abbrev pub standing : (ℕ → Shape) → List Calling → List Calling
standing shape calls = flat_map (λ c. standing_call (shape c.rule).size c) calls

-- For each rule that the root reaches, its expansion is that of its own calls, and its shape is kept.
pub record IsTable (rules : List (Labelled Cost)) (shapes : List Shape) : Type 0 where
  pub size : length shapes ≡ length rules
  pub within : (i : ℕ) → Reaches (called rules) 0 i → i < length rules
  pub expands : (i : ℕ) → Reaches (called rules) 0 i
      → expansion rules (length rules) i ≡ expanded (labels_of rules) (expansion rules (length rules)) (machine_at rules i)
  pub kept : (i : ℕ) → Reaches (called rules) 0 i → shape_at shapes i ≡ shape_of (expansion rules (length rules) i)
  pub starts : (i : ℕ) → Reaches (called rules) 0 i → IfSome (shape_at shapes i).start (λ s. s < (shape_at shapes i).size)
  pub machine : IsMachine (λ v. v) (replaced rules)

-- An expansion on its way: the states that are made, with the blocks of the calls that wait behind them, are those
-- of the replacement. The last call that waits comes next.
pub record IsExpanding (rules : List (Labelled Cost)) (shapes : List Shape) (made : List (State Cost)) (waiting : List Calling) (at : ℕ) : Type 0 where
  pub laid : (replaced rules).states ≡ made ++ blocks (expansion rules (length rules)) at (reverse waiting)
  pub size : at ≡ length made
  pub reached : (c : Calling) → Has waiting c → Reaches (called rules) 0 c.rule
  pub standing : (c : Calling) → Has waiting c → 0 < (shape_at shapes c.rule).size
