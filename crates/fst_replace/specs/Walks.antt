-- Walks over the calls of rules, as the code makes them.
use Rattle.std.specs.Prelude.{◌≡◌, ◌⊎◌, ℕ, ◌<◌, ◌≤◌, ◌+◌, List, [], ◌∷◌, length, take, get_or, slice_get, Some, sum_by}
use Rattle.fst_machine.specs.BreadthFirst.{Apart, Has}
use Rattle.fst_replace.specs.declared.order.Mark.{Mark}
use Rattle.fst_replace.specs.declared.order.Mark.TheVariants.{New, Open, Done}
use Rattle.fst_replace.specs.Calls.{CanCall, IsChain, Reaches}

-- the rules that the rule in this place calls
abbrev pub at_place : List (List ℕ) → ℕ → List ℕ
at_place calls i = get_or calls i []

-- rules call rules of the list
abbrev pub IsClosed : List (List ℕ) → Type 0
IsClosed calls = (i j : ℕ) → Has (at_place calls i) j → j < length calls

-- A walk on its way from a rule: the names are rules that it can call, and have those that it calls, and those
-- that the first of them call.
pub record IsMarking (calls : ℕ → List ℕ) (rule : ℕ) (names : List ℕ) (taken : ℕ) : Type 0 where
  pub within : taken ≤ length names
  pub apart : Apart names
  pub sound : (j : ℕ) → Has names j → CanCall calls rule j
  pub began : (j : ℕ) → Has (calls rule) j → Has names j
  pub closed : (i j : ℕ) → Has (take taken names) i → Has (calls i) j → Has names j

-- each rule of the list stands behind all rules that it calls
abbrev pub IsOrdered : (ℕ → List ℕ) → List ℕ → Type 0
IsOrdered calls order = (p i j : ℕ) → slice_get order p ≡ Some i → Has (calls i) j → Has (take p order) j

-- an order of the rules that the root reaches, each after all that it calls
pub record IsOrder (calls : List (List ℕ)) (order : List ℕ) : Type 0 where
  pub ordered : IsOrdered (at_place calls) order
  pub root : Has order 0
  pub listed : (j : ℕ) → Has order j → j < length calls
  pub reached : (j : ℕ) → Has order j → Reaches (at_place calls) 0 j

-- how many steps of a search a rule with this mark may still take
abbrev pub rank : Mark → ℕ
rank New = 4
rank Open = 2
rank Done = 0

abbrev pub steps_left : List Mark → List ℕ → ℕ
steps_left marks stack = sum_by rank marks + length stack

-- these rules are a chain of calls from the root, of which the last is this one
pub record IsTrail (calls : ℕ → List ℕ) (stack : List ℕ) : Type 0 where
  pub rest : List ℕ
  pub last : ℕ
  pub same : stack ≡ 0 ∷ rest
  pub chain : IsChain calls 0 rest last

-- A search on its way: rules that are done stand in the order, rules that are open on the stack, which is a
-- chain of calls from the root; and so many calls of each rule lead to rules that are done.
pub record IsSearch (calls : List (List ℕ)) (marks : List Mark) (cursors : List ℕ) (stack order : List ℕ) : Type 0 where
  pub marks_size : length marks ≡ length calls
  pub cursors_size : length cursors ≡ length calls
  pub ordered : IsOrdered (at_place calls) order
  pub done : (j : ℕ) → get_or marks j New ≡ Done → Has order j
  pub opened : (j : ℕ) → get_or marks j New ≡ Open → Has stack j
  pub trail : (stack ≡ []) ⊎ IsTrail (at_place calls) stack
  pub within : (j : ℕ) → Has stack j → j < length calls
  pub listed : (j : ℕ) → Has order j → j < length calls
  pub reached : (j : ℕ) → Has order j → Reaches (at_place calls) 0 j
  pub behind : (i c j : ℕ) → c < get_or cursors i 0 → slice_get (at_place calls i) c ≡ Some j → Has order j
  pub ended : stack ≡ [] → Has order 0
