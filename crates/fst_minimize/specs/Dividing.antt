-- States that are divided into blocks, those with equal behaviour in one, and lists of states under keys by which blocks are
-- divided. (Hopcroft 1971: a block is divided by the states whose arcs with one letter lead into another block.)
use Rattle.std.specs.Prelude.{◌≡◌, ◌⊎◌, ℕ, ◌<◌, ◌≤◌, List, [], Some, get_or, length, slice_get}
use Rattle.fst_machine.specs.Graph.{Graph}
use Rattle.fst_machine.specs.BreadthFirst.{Has}
use Rattle.fst_minimize.specs.Behaviour.{Alike}
use Rattle.fst_minimize.specs.Numbered.{number_in}
use Rattle.fst_minimize.specs.Parts.{IsMarked}
use Rattle.fst_minimize.specs.declared.backs.Keyed.{Keyed}
use Rattle.fst_minimize.specs.declared.parts.Parts.{Parts}

-- of n states, those with equal behaviour have one number
abbrev pub KeepsAlike : Graph ℕ → ℕ → List ℕ → Type 0
KeepsAlike g n numbers = (p q : ℕ) → p < n → q < n → Alike g g p q → number_in numbers p ≡ number_in numbers q

-- the state stands under the key
abbrev pub Under : List Keyed → ℕ → ℕ → Type 0
Under items key state = Has items (record { key = key; state = state })

-- where a state stands under a key, so do all of n with the same behaviour
abbrev pub TakesAlike : Graph ℕ → ℕ → List Keyed → Type 0
TakesAlike g n items = (key p q : ℕ) → p < n → q < n → Alike g g p q → Under items key p → Under items key q

-- the states are of these n
abbrev pub AreBelow : ℕ → List Keyed → Type 0
AreBelow n items = (i : ℕ) (item : Keyed) → slice_get items i ≡ Some item → item.state < n

-- the state stands in a place of this part of the list
pub record InRun (items : List Keyed) (first end p : ℕ) : Type 0 where
  pub place : ℕ
  pub item : Keyed
  pub low : first ≤ place
  pub within : place < end
  pub there : slice_get items place ≡ Some item
  pub same : item.state ≡ p

-- The part has one key, which stands nowhere else from there on.
pub record IsRun (items : List Keyed) (first end : ℕ) : Type 0 where
  pub some : first < end
  pub within : end ≤ length items
  pub one : (i : ℕ) (a b : Keyed) → first ≤ i → i < end → slice_get items first ≡ Some a → slice_get items i ≡ Some b → b.key ≡ a.key
  pub other : (i : ℕ) (a b : Keyed) → end ≤ i → slice_get items first ≡ Some a → slice_get items i ≡ Some b → a.key < b.key

-- no state of n has a mark
abbrev pub NoMarks : Parts → Type 0
NoMarks parts = (p : ℕ) → p < length parts.blocks.items → IsMarked parts p → ⊥

-- in each block, a state with a mark does not behave as one without
abbrev pub TellsMarked : Graph ℕ → Parts → Type 0
TellsMarked g parts = (p q : ℕ) → p < length parts.blocks.items → q < length parts.blocks.items → Alike g g p q → IsMarked parts p → (IsMarked parts q → ⊥) → ⊥

-- an arc of the state, in this place of its row, leads to q
abbrev pub LeadsBy : List (List ℕ) → ℕ → ℕ → ℕ → Type 0
LeadsBy rows p key q = (r : List ℕ) × (slice_get rows p ≡ Some r) × (slice_get r key ≡ Some q)

-- For each state just the arcs that lead to it, each as the state that it leaves under its place in the row of that.
pub record AreBacks (rows : List (List ℕ)) (lists : List (List Keyed)) : Type 0 where
  pub size : length lists ≡ length rows
  pub only : (p key q : ℕ) → Under (get_or lists q []) key p → LeadsBy rows p key q
  pub all : (p key q : ℕ) → LeadsBy rows p key q → Under (get_or lists q []) key p

-- the place comes before another: that of an earlier state, or an earlier one of the same state
abbrev pub ComesBefore : ℕ → ℕ → ℕ → ℕ → Type 0
ComesBefore p key state place = (p < state) ⊎ ((p ≡ state) × (key < place))

-- The same of the arcs before a place.
pub record AreBacksBefore (rows : List (List ℕ)) (state place : ℕ) (lists : List (List Keyed)) : Type 0 where
  pub size : length lists ≡ length rows
  pub only : (p key q : ℕ) → Under (get_or lists q []) key p → LeadsBy rows p key q
  pub all : (p key q : ℕ) → LeadsBy rows p key q → ComesBefore p key state place → Under (get_or lists q []) key p

-- Places have one number just where they have one in both lists.
pub record IsBoth (first second numbers : List ℕ) : Type 0 where
  pub size : length numbers ≡ length first
  pub same : (p q : ℕ) → p < length first → q < length first → number_in numbers p ≡ number_in numbers q → (number_in first p ≡ number_in first q) × (number_in second p ≡ number_in second q)
  pub other : (p q : ℕ) → p < length first → q < length first → number_in first p ≡ number_in first q → number_in second p ≡ number_in second q → number_in numbers p ≡ number_in numbers q
