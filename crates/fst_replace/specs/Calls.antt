-- Which rules call which. (OpenFst manual, "Replace": an arc whose output label is that of a rule stands for a
-- path of that rule's machine.)
use Rattle.std.specs.Prelude.{◌≡◌, ◌<◌, ℕ, List, [], ◌∷◌, Option, None, Some, map}
use Rattle.std.specs.List.{flat_map}
use Rattle.fst_machine.specs.BreadthFirst.{Has}
use Rattle.fst_machine.specs.Machine.{Arc, State}
use Rattle.fst_replace.specs.Rules.{Labelled, labels_of, machine_at, place_of}

-- A call: the place of the rule that is called, and the state to which the call arc leads.
pub record Calling : Type 0 where
  pub rule : ℕ
  pub next : ℕ

-- the call that an arc makes, if its output label is that of a rule
abbrev pub calling : Option ℕ → ℕ → List Calling
calling None next = []
calling (Some rule) next = record { rule = rule; next = next } ∷ []

abbrev pub call_of : {V : Type 0} → List ℕ → Arc V ℕ → List Calling
call_of labels a = calling (place_of labels a.olabel) a.next

-- the calls that arcs make, in order
abbrev pub calls_in : {V : Type 0} → List ℕ → List (Arc V ℕ) → List Calling
calls_in labels arcs = flat_map (call_of labels) arcs

-- the arcs of states, by state and place
abbrev pub arcs_of : {V : Type 0} → List (State V) → List (Arc V ℕ)
arcs_of states = flat_map (λ s. s.arcs) states

-- the rules that calls call
abbrev pub rules_in : List Calling → List ℕ
rules_in calls = map (λ c. c.rule) calls

-- the rules that the rule in this place calls, once for each call arc
abbrev pub called : {V : Type 0} → List (Labelled V) → ℕ → List ℕ
called rules i = rules_in (calls_in (labels_of rules) (arcs_of (machine_at rules i).states))

-- Each of these rules is called by the one before it, of which the first is i, and the last is j.
abbrev pub IsChain : (ℕ → List ℕ) → ℕ → List ℕ → ℕ → Type 0
IsChain calls i [] j = i ≡ j
IsChain calls i (k ∷ chain) j = Has (calls i) k × IsChain calls k chain j

-- i calls j in some number of calls
abbrev pub Reaches : (ℕ → List ℕ) → ℕ → ℕ → Type 0
Reaches calls i j = (chain : List ℕ) × IsChain calls i chain j

-- i calls j in one or more calls
abbrev pub CanCall : (ℕ → List ℕ) → ℕ → ℕ → Type 0
CanCall calls i j = (k : ℕ) × Has (calls i) k × Reaches calls k j

-- the root reaches the rule, and the rule can call itself
abbrev pub IsRecursive : (ℕ → List ℕ) → ℕ → Type 0
IsRecursive calls i = Reaches calls 0 i × CanCall calls i i

-- no rule that the root reaches can call itself
abbrev pub HasNoRecursion : (ℕ → List ℕ) → Type 0
HasNoRecursion calls = (i : ℕ) → IsRecursive calls i → ⊥

-- the first rule that the root reaches and that can call itself
pub record IsFirstRecursive (calls : ℕ → List ℕ) (i : ℕ) : Type 0 where
  pub recursive : IsRecursive calls i
  pub first : (j : ℕ) → j < i → IsRecursive calls j → ⊥
