-- A heap of states by key, with the place of each state in it.
use Rattle.std.specs.Prelude.{◌≡◌, ◌≢◌, ◌⊎◌, ◌↔◌, ℕ, ◌+◌, ◌<◌, pos, false}
use Rattle.std.specs.Prelude.{List, [], Option, Some, None, map, length, get_or}
use Rattle.std.specs.Ordering.{is_gt}
use Rattle.fst_semiring.specs.declared.key.Key.{Key}
use Rattle.fst_semiring.specs.Keys.{key_cmp}
use Rattle.fst_machine.specs.BreadthFirst.{Has}
use Rattle.fst_queue.specs.HeapOrder.{Ordered}

-- the first key is no worse
abbrev pub NoWorse : Key → Key → Type 0
NoWorse a b = is_gt (key_cmp a b) ≡ false

-- the states of a list of states with their keys
abbrev pub states_of : List (ℕ × Key) → List ℕ
states_of entries = map (λ e. e.0) entries

-- the entries after a put: a state has the key of its last put
abbrev pub Rekeys : List (ℕ × Key) → ℕ → Key → List (ℕ × Key) → Type 0
Rekeys old state key new = (q : ℕ) (k : Key) → Has new (q, k) ↔ (((q ≡ state) × (k ≡ key)) ⊎ ((q ≢ state) × Has old (q, k)))

-- a state leaves whose key no other key betters
pub record BestLeaves (old : List (ℕ × Key)) (state : ℕ) (new : List (ℕ × Key)) : Type 0 where
  pub key : Key
  pub had : Has old (state, key)
  pub best : (q : ℕ) (k : Key) → Has old (q, k) → NoWorse key k
  pub left : (q : ℕ) (k : Key) → Has new (q, k) ↔ (Has old (q, k) × (q ≢ state))

-- the entries after a take
abbrev pub TakesBest : List (ℕ × Key) → Option ℕ → List (ℕ × Key) → Type 0
TakesBest old None new = (old ≡ []) × (new ≡ [])
TakesBest old (Some state) new = BestLeaves old state new

-- the key of a state that never had one
abbrev pub no_key : Key
no_key = record { class = 0; first = pos 0; second = pos 0 }

-- the key of a state, and that of the state in a place of the heap
abbrev pub key_at : List Key → ℕ → Key
key_at keys state = get_or keys state no_key

abbrev pub key_in : List Key → List ℕ → ℕ → Key
key_in keys heap i = key_at keys (get_or heap i 0)

-- each state of the heap has its place, one up, in the table of places, and no other state has one there
pub record Linked (heap places : List ℕ) (size : ℕ) : Type 0 where
  pub low : (i : ℕ) → i < length heap → (get_or heap i 0 < length places) × (get_or heap i 0 < size)
  pub placed : (i : ℕ) → i < length heap → get_or places (get_or heap i 0) 0 ≡ i + 1
  pub back : (q i : ℕ) → get_or places q 0 ≡ i + 1 → (i < length heap) × (get_or heap i 0 ≡ q)

-- the same states have places
abbrev pub SamePresent : List ℕ → List ℕ → Type 0
SamePresent old new = (q : ℕ) → (get_or new q 0 ≡ 0) ↔ (get_or old q 0 ≡ 0)

-- a heap in order
pub record Heaped (heap places : List ℕ) (keys : List Key) : Type 0 where
  pub linked : Linked heap places (length keys)
  pub ordered : Ordered key_cmp (length heap) (key_in keys heap)

-- the states of a heap with their keys
abbrev pub entries_of : List Key → List ℕ → List (ℕ × Key)
entries_of keys heap = map (λ state. (state, key_at keys state)) heap

-- no key of a state of the heap betters that of this state
abbrev pub IsBest : List Key → List ℕ → ℕ → Type 0
IsBest keys heap state = (q : ℕ) → Has heap q → NoWorse (key_at keys state) (key_at keys q)
