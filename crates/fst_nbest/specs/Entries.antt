-- Families of words as the program keeps them: a listed path, how much of it they begin with, a name, and a rank among
-- the moves of the name.
use Rattle.std.specs.Prelude.{◌≡◌, ◌≢◌, ◌⊎◌, ℕ, ◌+◌, ◌<◌, ◌≤◌, List, [], ◌∷◌, ◌++◌, Some, length, map, take, drop, get_or, All}
use Rattle.std.specs.declared.cmp.Ordering.{Ordering}
use Rattle.std.specs.Ordering.{nat_cmp, ordering_then}
use Rattle.std.specs.Cmp.Lexicographic.{slice_cmp}
use Rattle.std.specs.Cmp.{IsTotalOrder}
use Rattle.std.proofs.lemmas.Cmp.{then_total, on_total, nat_cmp_total, nat_list_cmp_total}
use Rattle.fst_semiring.specs.Cost.{Cost, cost_cmp, cost_total}
use Rattle.fst_semiring.specs.declared.arc_type.ArcType.{ArcType}
use Rattle.fst_semiring.specs.Semiring.{times}
use Rattle.fst_nbest.specs.declared.entry.Entry.{Entry}
use Rattle.fst_nbest.specs.Words.{Words, WeightedWord, Ahead, ahead_of, IsOrder}
use Rattle.fst_nbest.specs.Heap.{IsHeap}
use Rattle.fst_nbest.specs.Families.{Family, route, IsCovered, IsLeading}

-- the list in a place, the empty list past the end
abbrev pub list_at : List (List ℕ) → ℕ → List ℕ
list_at lists i = get_or lists i []

-- the words of an entry begin so
abbrev pub prefix_of : {D : Type 0} → List (List ℕ) → Entry D → List ℕ
prefix_of words e = take e.depth (list_at words e.path)

-- and go on first by this move
abbrev pub move_of : {D : Type 0} → List (List ℕ) → Entry D → ℕ
move_of orders e = get_or (list_at orders e.name) e.rank 0

-- the family of an entry whose words begin so
abbrev pub family_at : {D : Type 0} → (D → Cost) → List (List ℕ) → List ℕ → Entry D → Family ℕ
family_at value orders prefix e = record { prefix = prefix; at = e.name; front = value e.front; moves = drop e.rank (list_at orders e.name) }

abbrev pub family_of : {D : Type 0} → (D → Cost) → List (List ℕ) → List (List ℕ) → Entry D → Family ℕ
family_of value words orders e = family_at value orders (prefix_of words e) e

-- entries by weight, by arcs, by moves
abbrev pub entry_cmp : {D : Type 0} → (D → Cost) → List (List ℕ) → List (List ℕ) → Entry D → Entry D → Ordering
entry_cmp value words orders a b = ordering_then (cost_cmp (value a.total) (value b.total)) (ordering_then (nat_cmp a.arcs b.arcs)
    (slice_cmp nat_cmp (route (prefix_of words a) (move_of orders a)) (route (prefix_of words b) (move_of orders b))))

-- an entry can be compared: it begins with so much of its path, and its name has a move of its rank
pub record CanCompare {D : Type 0} (words orders : List (List ℕ)) (e : Entry D) : Type 0 where
  pub depth : e.depth ≤ length (list_at words e.path)
  pub name : e.name < length orders
  pub rank : e.rank < length (list_at orders e.name)

-- how long a path may be
abbrev pub most_long : ℕ
most_long = 1099511627776

-- each list that is not empty has all moves of its name, in order
abbrev pub AreOrders : ArcType → Words ℕ → (ℕ → Cost) → (ℕ → ℕ) → List (List ℕ) → Type 0
AreOrders kind g dist count orders = (x : ℕ) → list_at orders x ≢ [] → IsOrder kind g dist count x (list_at orders x)

module _ {D : Type 0} (kind : ArcType) (g : Words ℕ) (dist : ℕ → Cost) (count : ℕ → ℕ) (value : D → Cost) (bounded : ℕ → D → Type 0) where
  -- what is kept of an entry is what its first move has ahead
  pub record IsEntry (orders : List (List ℕ)) (e : Entry D) : Type 0 where
    pub name : e.name < length orders
    pub rank : e.rank < length (list_at orders e.name)
    pub ahead : Ahead
    pub is : ahead_of kind g dist count e.name (move_of orders e) ≡ Some ahead
    pub total : value e.total ≡ times kind (value e.front) ahead.total
    pub arcs : e.arcs ≡ e.depth + ahead.arcs
    pub bound : bounded e.depth e.front
    pub long : e.depth ≤ most_long

-- orders are added, and none changes
pub record OrdersGrow (old new : List (List ℕ)) : Type 0 where
  pub size : length new ≡ length old
  pub same : (x : ℕ) → list_at old x ≢ [] → list_at new x ≡ list_at old x

module _ {D : Type 0} (kind : ArcType) (g : Words ℕ) (dist : ℕ → Cost) (count : ℕ → ℕ) (value : D → Cost) (bounded : ℕ → D → Type 0) where
  -- what is left of a family behind its first move is put, as an entry on this path, where it has more moves
  abbrev pub IsLeft : List (List ℕ) → ℕ → Entry D → List (Entry D) → List (Entry D) → Type 0
  IsLeft orders path core old new = ((new ≡ old) × (length (list_at orders core.name) ≤ core.rank + 1))
      ⊎ ((e : Entry D) × (new ≡ old ++ e ∷ []) × (e.path ≡ path) × (e.depth ≡ core.depth) × (e.name ≡ core.name) × (e.front ≡ core.front)
      × (e.rank ≡ core.rank + 1) × IsEntry kind g dist count value bounded orders e)

  -- One step of a walk: the entry's first move is a step, by which the word and the entry go on; orders may be added.
  pub record Stepped (old new : List (List ℕ)) (before after : List ℕ) (core next : Entry D) : Type 0 where
    pub place : ℕ
    pub weight : Cost
    pub move : move_of old core ≡ place + 1
    pub step : g.step core.name place ≡ Some (weight, next.name)
    pub front : value next.front ≡ times kind (value core.front) weight
    pub word : after ≡ before ++ place ∷ []
    pub depth : next.depth ≡ core.depth + 1
    pub rank : next.rank ≡ 0
    pub total : next.total ≡ core.total
    pub arcs : next.arcs ≡ core.arcs
    pub orders : AreOrders kind g dist count new
    pub grow : OrdersGrow old new
    pub entry : IsEntry kind g dist count value bounded new next

  -- the entry is one that was left on this path, of so many arcs
  pub record IsLeftOn (orders : List (List ℕ)) (path : ℕ) (long : ℕ) (e : Entry D) : Type 0 where
    pub entry : IsEntry kind g dist count value bounded orders e
    pub on : e.path ≡ path
    pub depth : e.depth ≤ long

  -- the families of entries that are left on a path
  abbrev pub families_on : List (List ℕ) → List ℕ → List (Entry D) → List (Family ℕ)
  families_on orders word left = map (λ e. family_at value orders (take e.depth word) e) left

  -- A walk from an entry: its word is the best of the entry's family, and the families that are left have the other
  -- words of it.
  pub record Walked (words old new : List (List ℕ)) (path : ℕ) (entry : Entry D) (entries : List (Entry D)) (word : List ℕ) : Type 0 where
    pub orders : AreOrders kind g dist count new
    pub grow : OrdersGrow old new
    pub left : All (IsLeftOn new path (length word)) entries
    pub long : length word ≡ entry.arcs
    pub covers : (start : ℕ) (listed : List WeightedWord) (families : List (Family ℕ))
        → IsCovered kind g dist count start listed (family_of value words old entry ∷ families)
        → IsLeading kind g dist count start (family_of value words old entry) families (value entry.total) entry.arcs
        → IsCovered kind g dist count start (listed ++ record { word = word; weight = value entry.total } ∷ []) (families_on new word entries ++ families)

-- the order of entries is total
pub entry_total : {D : Type 0} (value : D → Cost) (words orders : List (List ℕ)) → IsTotalOrder {K = Entry D} (entry_cmp value words orders)
entry_total {D} value words orders = then_total (on_total (λ (e : Entry D). value e.total) cost_total)
    (then_total (on_total (λ (e : Entry D). e.arcs) nat_cmp_total) (on_total (λ (e : Entry D). route (prefix_of words e) (move_of orders e)) nat_list_cmp_total))

-- the moves of an entry's prefix, and its own
abbrev pub route_of : {D : Type 0} → List (List ℕ) → List (List ℕ) → Entry D → List ℕ
route_of words orders e = route (prefix_of words e) (move_of orders e)

module _ {D : Type 0} (kind : ArcType) (g : Words ℕ) (dist : ℕ → Cost) (count : ℕ → ℕ) (value : D → Cost) (bounded : ℕ → D → Type 0) (start : ℕ) where
  -- an entry of the table, which begins as a listed word
  pub record IsKept (words orders : List (List ℕ)) (e : Entry D) : Type 0 where
    pub entry : IsEntry kind g dist count value bounded orders e
    pub depth : e.depth ≤ length (list_at words e.path)

  -- A search on its way: these are the first words, and the table has the families of all others.
  pub record IsSearching (words orders : List (List ℕ)) (table : List (Entry D)) : Type 0 where
    pub sorted : AreOrders kind g dist count orders
    pub entries : All (IsKept words orders) table
    pub heap : IsHeap (entry_cmp value words orders) table
    pub listed : List WeightedWord
    pub same : map (λ w. w.word) listed ≡ words
    pub covered : IsCovered kind g dist count start listed (map (family_of value words orders) table)
