-- A search on its way: one more word is listed.
use Rattle.std.proofs.Common.{◌≡◌, ◌≢◌, ◌⊎◌, inl, inr, ℕ, ◌+◌, ◌<◌, ◌≤◌, false, List, [], ◌∷◌, ◌++◌, Some, length, map, drop, take, get_or, refl, sym, ap, ap₂, subst, ◌∙◌, true, append_assoc, arith}
use Rattle.std.proofs.Common.{Ordering}
use Rattle.std.specs.Prelude.{Result, OnOk}
use Rattle.std.proofs.Common.{Ok, Err}
use Rattle.std.specs.Ordering.{is_gt, nat_cmp, ordering_then}
use Rattle.std.specs.Cmp.Lexicographic.{slice_cmp}
use Rattle.std.specs.List.{All}
use Rattle.std.specs.List.Sorted.{IsPermutation}
use Rattle.std.proofs.lemmas.Bool.{cases_lt}
use Rattle.std.proofs.lemmas.List.{map-append, get_or_append_left, get_or_push, get_or_past, length-map, length-take-le}
use Rattle.std.proofs.lemmas.List.Elements.{All-append, All-cons, All-nil, All-head, All-tail, All-weaker}
use Rattle.std.proofs.lemmas.List.Sorted.{All-permutation, IsPermutation-append_right, IsPermutation-map, IsPermutation-trans}
use Rattle.std.proofs.lemmas.Option.{get_or_from_slice_get}
use Rattle.fst_semiring.specs.Cost.{Cost, cost_cmp}
use Rattle.fst_semiring.specs.declared.arc_type.ArcType.{ArcType}
use Rattle.fst_semiring.specs.Semiring.{cancels, one_of, times}
use Rattle.fst_semiring.proofs.Laws.{one_times}
use Rattle.fst_machine.specs.BreadthFirst.{Has}
use Rattle.fst_machine.proofs.Elements.{Has_at}
use Rattle.fst_nbest.specs.declared.entry.Entry.{Entry}
use Rattle.fst_nbest.specs.Heap.{IsHeap, FirstLeaves}
use Rattle.fst_queue.specs.HeapOrder.{NotAfter}
use Rattle.fst_nbest.specs.Words.{Words, WeightedWord, Ahead, ahead_of, AreWords, AreFirstWords, IsAhead, IsOrder}
use Rattle.fst_nbest.specs.Families.{Family, family_cmp, route, IsCovered, IsLeading}
use Rattle.fst_nbest.specs.Entries.{list_at, move_of, prefix_of, family_at, family_of, families_on, entry_cmp, route_of, AreOrders, CanCompare, IsKept, IsLeftOn, IsSearching, OrdersGrow, Walked}
use Rattle.fst_nbest.proofs.Covering.{Has-permutation}
use Rattle.fst_nbest.proofs.Peeling.{IsWaiting, covered_first, covered_permutation, covered_start, taken_leading}
use Rattle.fst_nbest.proofs.Ranks.{first_ahead}
use Rattle.fst_nbest.proofs.Sorted.{in_order_at}
use Rattle.fst_nbest.proofs.Walks.{entry_moves, entry_same, map_same, some_order}

pub Has-map : {X Y : Type 0} (f : X → Y) (xs : List X) (y : Y) → Has (map f xs) y → (x : X) × Has xs x × (f x ≡ y)
Has-map f [] y none = absurd none
Has-map f (x ∷ xs) y (inl e) = (x, inl refl, e)
Has-map f (x ∷ xs) y (inr there) = let rest = Has-map f xs y there in (rest.0, inr rest.1, rest.2)

pub map_Has : {X Y : Type 0} (f : X → Y) (xs : List X) (x : X) → Has xs x → Has (map f xs) (f x)
map_Has f [] x none = absurd none
map_Has f (y ∷ xs) x (inl e) = inl (ap f e)
map_Has f (y ∷ xs) x (inr there) = inr (map_Has f xs x there)

pub All-has : {X : Type 0} (P : X → Type 0) (xs : List X) (x : X) → All P xs → Has xs x → P x
All-has P xs x all there =
    let at = Has_at xs x there in
    subst P (get_or_from_slice_get xs at.0 x x at.1) (all at.0 x at.2)

-- a heap stays one where its elements compare as before
pub heap_same : {X : Type 0} (R Q : X → X → Ordering) (P : X → Type 0) (items : List X) → ((a b : X) → P a → P b → R a b ≡ Q a b) → All P items → IsHeap R items → IsHeap Q items
heap_same R Q P items same all heap d p c below low =
    let inside : p < length items = omega (arith, below, low) in
    ap is_gt (sym (same (get_or items p d) (get_or items c d) (all p d inside) (all c d low))) ∙ heap d p c below low

-- what is listed behind the others does not change them
pub prefix_same : {D : Type 0} (words : List (List ℕ)) (word : List ℕ) (e : Entry D) → e.depth ≤ length (list_at words e.path) → prefix_of (words ++ word ∷ []) e ≡ prefix_of words e
prefix_same words word e low = by (cases_lt e.path (length words))
  where
    by : (e.path < length words) ⊎ (length words ≤ e.path) → prefix_of (words ++ word ∷ []) e ≡ prefix_of words e
    by (inl inside) = ap (take e.depth) (get_or_append_left words (word ∷ []) [] e.path inside)
    by (inr past) =
        let none : list_at words e.path ≡ [] = get_or_past words e.path [] past in
        let zero_deep : e.depth ≡ 0 = omega (arith, low, ap length none) in
        ap (λ (n : ℕ). take n (list_at (words ++ word ∷ []) e.path)) zero_deep ∙ sym (ap (λ (n : ℕ). take n (list_at words e.path)) zero_deep)

depth_more : {D : Type 0} (words : List (List ℕ)) (word : List ℕ) (e : Entry D) → e.depth ≤ length (list_at words e.path) → e.depth ≤ length (list_at (words ++ word ∷ []) e.path)
depth_more words word e low = by (cases_lt e.path (length words))
  where
    by : (e.path < length words) ⊎ (length words ≤ e.path) → e.depth ≤ length (list_at (words ++ word ∷ []) e.path)
    by (inl inside) = subst (λ (l : List ℕ). e.depth ≤ length l) (sym (get_or_append_left words (word ∷ []) [] e.path inside)) low
    by (inr past) = let none : list_at words e.path ≡ [] = get_or_past words e.path [] past in omega (arith, low, ap length none)

pub kept_compare : {D : Type 0} (kind : ArcType) (g : Words ℕ) (dist : ℕ → Cost) (count : ℕ → ℕ) (value : D → Cost) (bounded : ℕ → D → Type 0) (start : ℕ) (words orders : List (List ℕ)) (es : List (Entry D))
    → All (IsKept kind g dist count value bounded start words orders) es → All (CanCompare words orders) es
kept_compare kind g dist count value bounded start words orders es all =
    All-weaker (IsKept kind g dist count value bounded start words orders) (CanCompare words orders) (λ e h. record { depth = h.depth; name = h.entry.name; rank = h.entry.rank }) es all

module _ {D : Type 0} (kind : ArcType) (g : Words ℕ) (dist : ℕ → Cost) (count : ℕ → ℕ) (value : D → Cost) (bounded : ℕ → D → Type 0) (cancel : cancels kind ≡ true) (good : AreWords kind g dist count) (start : ℕ) where
  abbrev Kept : List (List ℕ) → List (List ℕ) → Entry D → Type 0
  Kept words orders = IsKept kind g dist count value bounded start words orders

  -- entries in the table as words are listed and orders are added
  kept_same : (words : List (List ℕ)) (word : List ℕ) (old new : List (List ℕ)) (e : Entry D) → OrdersGrow old new → Kept words old e → Kept (words ++ word ∷ []) new e
  kept_same words word old new e grow h = record { entry = entry_same kind g dist count value bounded cancel good old new e grow h.entry; depth = depth_more words word e h.depth }

  order_same : (words : List (List ℕ)) (old new : List (List ℕ)) (e : Entry D) → OrdersGrow old new → Kept words old e → list_at new e.name ≡ list_at old e.name
  order_same words old new e grow h = grow.same e.name (some_order kind g dist count value bounded cancel good old e.name e.rank h.entry.rank)

  family_kept : (words : List (List ℕ)) (word : List ℕ) (old new : List (List ℕ)) (e : Entry D) → OrdersGrow old new → Kept words old e → family_of value (words ++ word ∷ []) new e ≡ family_of value words old e
  family_kept words word old new e grow h =
      ap₂ (λ (p l : List ℕ). record { prefix = p; at = e.name; front = value e.front; moves = drop e.rank l }) (prefix_same words word e h.depth) (order_same words old new e grow h)

  route_kept : (words : List (List ℕ)) (word : List ℕ) (old new : List (List ℕ)) (e : Entry D) → OrdersGrow old new → Kept words old e → route_of words old e ≡ route_of (words ++ word ∷ []) new e
  route_kept words word old new e grow h = sym (ap₂ (λ (p l : List ℕ). route p (get_or l e.rank 0)) (prefix_same words word e h.depth) (order_same words old new e grow h))

  cmp_kept : (words : List (List ℕ)) (word : List ℕ) (old new : List (List ℕ)) → OrdersGrow old new → (a b : Entry D) → Kept words old a → Kept words old b → entry_cmp value words old a b ≡ entry_cmp value (words ++ word ∷ []) new a b
  cmp_kept words word old new grow a b h k =
      ap₂ (λ (p q : List ℕ). ordering_then (cost_cmp (value a.total) (value b.total)) (ordering_then (nat_cmp a.arcs b.arcs) (slice_cmp nat_cmp p q))) (route_kept words word old new a grow h) (route_kept words word old new b grow k)

  -- an entry waits
  abbrev waiting : (words orders : List (List ℕ)) (e : Entry D) → Kept words orders e → IsWaiting kind g dist count start cancel good (family_of value words orders e)
  waiting words orders e h = record { move = move_of orders e; others = drop (e.rank + 1) (list_at orders e.name); ahead = h.entry.ahead; moves = entry_moves kind g dist count value bounded cancel good orders e h.entry.rank; is = h.entry.is }

  prefix_long : (words : List (List ℕ)) (e : Entry D) → e.depth ≤ length (list_at words e.path) → length (prefix_of words e) ≡ e.depth
  prefix_long words e low = length-take-le e.depth (list_at words e.path) low

  entry_family : (words orders : List (List ℕ)) (a b : Entry D) (h : Kept words orders a) (k : Kept words orders b) → entry_cmp value words orders a b
      ≡ family_cmp kind (family_of value words orders a) (move_of orders a) h.entry.ahead (family_of value words orders b) (move_of orders b) k.entry.ahead
  entry_family words orders a b h k =
      ap₂ (λ (t u : Cost). ordering_then (cost_cmp t u) (ordering_then (nat_cmp a.arcs b.arcs) (slice_cmp nat_cmp (route_of words orders a) (route_of words orders b)))) h.entry.total k.entry.total
      ∙ ap₂ (λ (m n : ℕ). ordering_then (cost_cmp (times kind (value a.front) h.entry.ahead.total) (times kind (value b.front) k.entry.ahead.total)) (ordering_then (nat_cmp m n) (slice_cmp nat_cmp (route_of words orders a) (route_of words orders b))))
      (h.entry.arcs ∙ ap (λ (n : ℕ). n + h.entry.ahead.arcs) (sym (prefix_long words a h.depth))) (k.entry.arcs ∙ ap (λ (n : ℕ). n + k.entry.ahead.arcs) (sym (prefix_long words b k.depth)))

  -- an entry is taken
  module _ (words orders : List (List ℕ)) (table rest : List (Entry D)) (e : Entry D) (s : IsSearching kind g dist count value bounded start words orders table) (t : FirstLeaves (entry_cmp value words orders) table e rest) where
    all_kept : All (Kept words orders) (e ∷ rest)
    all_kept = All-permutation (Kept words orders) table (e ∷ rest) t.same s.entries

    pub taken_kept : Kept words orders e
    taken_kept = All-head (Kept words orders) e rest all_kept

    pub rest_kept : All (Kept words orders) rest
    rest_kept = All-tail (Kept words orders) e rest all_kept

    pub taken_covered : IsCovered kind g dist count start s.listed (family_of value words orders e ∷ map (family_of value words orders) rest)
    taken_covered = covered_permutation kind g dist count start s.listed (map (family_of value words orders) table) (map (family_of value words orders) (e ∷ rest)) (IsPermutation-map (family_of value words orders) table (e ∷ rest) t.same) s.covered

    pub taken_leads : IsLeading kind g dist count start (family_of value words orders e) (map (family_of value words orders) rest) (value e.total) e.arcs
    taken_leads =
        let w = waiting words orders e taken_kept in
        let l = taken_leading kind g dist count start cancel good s.listed (family_of value words orders e) (map (family_of value words orders) rest) taken_covered w first in
        subst (λ (n : ℕ). IsLeading kind g dist count start (family_of value words orders e) (map (family_of value words orders) rest) (value e.total) n) (ap (λ (n : ℕ). n + taken_kept.entry.ahead.arcs) (prefix_long words e taken_kept.depth) ∙ sym taken_kept.entry.arcs)
        (subst (λ (v : Cost). IsLeading kind g dist count start (family_of value words orders e) (map (family_of value words orders) rest) v (length (prefix_of words e) + taken_kept.entry.ahead.arcs)) (sym taken_kept.entry.total) l)
      where
        first : (f : Family ℕ) → Has (map (family_of value words orders) rest) f → (v : IsWaiting kind g dist count start cancel good f) × (is_gt (family_cmp kind (family_of value words orders e) (move_of orders e) taken_kept.entry.ahead f v.move v.ahead) ≡ false)
        first f there =
            let from = Has-map (family_of value words orders) rest f there in
            let k : Kept words orders from.0 = All-has (Kept words orders) rest from.0 rest_kept from.1 in
            let before : NotAfter (entry_cmp value words orders) e from.0 = All-has (NotAfter (entry_cmp value words orders) e) table from.0 t.first (Has-permutation table (e ∷ rest) from.0 t.same (inr from.1)) in
            let v = waiting words orders from.0 k in
            let late : is_gt (family_cmp kind (family_of value words orders e) (move_of orders e) taken_kept.entry.ahead (family_of value words orders from.0) (move_of orders from.0) k.entry.ahead) ≡ false = ap is_gt (sym (entry_family words orders e from.0 taken_kept k)) ∙ before in
            at f (family_of value words orders from.0) from.2 v late
          where
            at : (f h : Family ℕ) → h ≡ f → (v : IsWaiting kind g dist count start cancel good h) → is_gt (family_cmp kind (family_of value words orders e) (move_of orders e) taken_kept.entry.ahead h v.move v.ahead) ≡ false
                → (v : IsWaiting kind g dist count start cancel good f) × (is_gt (family_cmp kind (family_of value words orders e) (move_of orders e) taken_kept.entry.ahead f v.move v.ahead) ≡ false)
            at f h same v late = subst (λ (j : Family ℕ). (v : IsWaiting kind g dist count start cancel good j) × (is_gt (family_cmp kind (family_of value words orders e) (move_of orders e) taken_kept.entry.ahead j v.move v.ahead) ≡ false)) same (v, late)

    -- its best word is listed, and the families that are left are put into the table
    module _ (now : List (List ℕ)) (word : List ℕ) (left table_now : List (Entry D)) (w : Walked kind g dist count value bounded words orders now (length words) e left word) where
      abbrev more : List (List ℕ)
      more = words ++ word ∷ []

      here_is : list_at more (length words) ≡ word
      here_is = get_or_push words word [] (length words) refl

      left_kept : (f : Entry D) → IsLeftOn kind g dist count value bounded now (length words) (length word) f → Kept more now f
      left_kept f on = record { entry = on.entry; depth = subst (λ (l : List ℕ). f.depth ≤ length l) (sym (ap (list_at more) on.on ∙ here_is)) on.depth }

      pub lefts_kept : All (Kept more now) left
      lefts_kept = All-weaker (IsLeftOn kind g dist count value bounded now (length words) (length word)) (Kept more now) left_kept left w.left

      pub rests_kept : All (Kept more now) rest
      rests_kept = All-weaker (Kept words orders) (Kept more now) (λ f h. kept_same words word orders now f w.grow h) rest rest_kept

      pub rest_heap : IsHeap (entry_cmp value more now) rest
      rest_heap = heap_same (entry_cmp value words orders) (entry_cmp value more now) (Kept words orders) rest (λ a b h k. cmp_kept words word orders now w.grow a b h k) rest_kept t.heap

      left_families : map (family_of value more now) left ≡ families_on kind g dist count value bounded now word left
      left_families = map_same (IsLeftOn kind g dist count value bounded now (length words) (length word)) (family_of value more now) (λ (f : Entry D). family_at value now (take f.depth word) f) left
          (λ f on. ap (λ (l : List ℕ). family_at value now (take f.depth l) f) (ap (list_at more) on.on ∙ here_is)) w.left

      rest_families : map (family_of value more now) rest ≡ map (family_of value words orders) rest
      rest_families = map_same (Kept words orders) (family_of value more now) (family_of value words orders) rest (λ f h. family_kept words word orders now f w.grow h) rest_kept

      pub listed_on : IsPermutation (left ++ rest) table_now → IsHeap (entry_cmp value more now) table_now → IsSearching kind g dist count value bounded start more now table_now
      listed_on same heap = record {
        sorted = w.orders;
        entries = All-permutation (Kept more now) (left ++ rest) table_now same (All-append (Kept more now) left rest lefts_kept rests_kept);
        heap = heap;
        listed = s.listed ++ record { word = word; weight = value e.total } ∷ [];
        same = map-append (λ (a : WeightedWord). a.word) s.listed (record { word = word; weight = value e.total } ∷ []) ∙ ap (λ (l : List (List ℕ)). l ++ word ∷ []) s.same;
        covered = covered_permutation kind g dist count start (s.listed ++ record { word = word; weight = value e.total } ∷ []) (map (family_of value more now) (left ++ rest)) (map (family_of value more now) table_now)
            (IsPermutation-map (family_of value more now) (left ++ rest) table_now same)
            (subst (λ (fs : List (Family ℕ)). IsCovered kind g dist count start (s.listed ++ record { word = word; weight = value e.total } ∷ []) fs)
            (sym (map-append (family_of value more now) left rest ∙ ap₂ (◌++◌) left_families rest_families)) (w.covers start s.listed (map (family_of value words orders) rest) taken_covered taken_leads));
      }

  -- the search begins with the family of all words
  pub search_begins : (orders : List (List ℕ)) (first : Entry D) (d : Cost) (c : ℕ) → AreOrders kind g dist count orders → list_at orders start ≢ [] → start < length orders → IsAhead kind g start (dist start) (count start) → first.name ≡ start → first.rank ≡ 0 → first.depth ≡ 0 → first.arcs ≡ count start
      → value first.front ≡ one_of kind → value first.total ≡ dist start → bounded first.depth first.front → IsSearching kind g dist count value bounded start [] orders (first ∷ [])
  search_begins orders first d c sorted some low live name rank depth arcs front total bound = record {
    sorted = sorted;
    entries = All-cons (Kept [] orders) first [] kept (All-nil (Kept [] orders));
    heap = λ x p q below inside. absurd (omega (arith, below, inside));
    listed = [];
    same = refl;
    covered = subst (λ (f : Family ℕ). IsCovered kind g dist count start [] (f ∷ [])) whole (covered_start kind g dist count start cancel good d c (list_at orders start) (sorted start some));
  }
    where
      filled : (l : List ℕ) → l ≢ [] → 0 < length l
      filled [] none = absurd (none refl)
      filled (m ∷ l) none = omega arith

      there : (e : Ahead) × (ahead_of kind g dist count start (get_or (list_at orders start) 0 0) ≡ Some e)
      there = in_order_at kind g dist count start (list_at orders start) 0 (sorted start some).ordered (filled (list_at orders start) some)

      first_of : (l : List ℕ) → l ≢ [] → IsOrder kind g dist count start l → (e : Ahead) → ahead_of kind g dist count start (get_or l 0 0) ≡ Some e → (e.total ≡ dist start) × (e.arcs ≡ count start)
      first_of [] none order e is = absurd (none refl)
      first_of (m ∷ l) none order e is = first_ahead kind g dist count cancel good start m l (dist start) (count start) e live order is

      best : (there.0.total ≡ dist start) × (there.0.arcs ≡ count start)
      best = first_of (list_at orders start) some (sorted start some) there.0 there.1

      kept : Kept [] orders first
      kept = record {
        entry = record {
          name = omega (arith, name, low);
          rank = subst (λ (n : ℕ). first.rank < length (list_at orders n)) (sym name) (let f = filled (list_at orders start) some in omega (arith, rank, f));
          ahead = there.0;
          is = ap₂ (λ (n r : ℕ). ahead_of kind g dist count n (get_or (list_at orders n) r 0)) name rank ∙ there.1;
          total = total ∙ (sym best.0 ∙ (sym (one_times kind there.0.total) ∙ ap (λ (z : Cost). times kind z there.0.total) (sym front)));
          arcs = omega (arith, arcs, best.1, depth);
          bound = bound;
          long = omega (arith, depth);
        };
        depth = omega (arith, depth);
      }

      whole : record { prefix = []; at = start; front = one_of kind; moves = list_at orders start } ≡ family_of value [] orders first
      whole = λ i. record { prefix = prefix i; at = sym name i; front = sym front i; moves = moves i }
        where
          prefix : [] ≡ prefix_of [] first
          prefix = sym (ap (λ (n : ℕ). take n (list_at [] first.path)) depth)

          moves : list_at orders start ≡ drop first.rank (list_at orders first.name)
          moves = sym (ap₂ (λ (r n : ℕ). drop r (list_at orders n)) rank name)

  -- the words that are listed are the first
  pub search_ends : (words orders : List (List ℕ)) (table : List (Entry D)) (n : ℕ) → length words ≤ n → (length words ≡ n) ⊎ (table ≡ []) → IsSearching kind g dist count value bounded start words orders table
      → (listed : List WeightedWord) × AreFirstWords kind g start n listed × (map (λ w. w.word) listed ≡ words)
  search_ends words orders table n few done s =
      let long : length s.listed ≡ length words = sym (length-map s.listed (λ (w : WeightedWord). w.word)) ∙ ap length s.same in
      (s.listed, covered_first kind g dist count start s.listed (map (family_of value words orders) table) n (omega (arith, few, long)) (by long done) s.covered, s.same)
    where
      by : length s.listed ≡ length words → (length words ≡ n) ⊎ (table ≡ []) → (length s.listed ≡ n) ⊎ (map (family_of value words orders) table ≡ [])
      by long (inl full) = inl (long ∙ full)
      by long (inr none) = inr (ap (map (family_of value words orders)) none)

-- one more entry is put
pub put_more : {X : Type 0} (whole left table new : List X) (x : X) (out : List X) → left ≡ new ++ x ∷ [] → IsPermutation (x ∷ table) out → IsPermutation whole (left ++ table) → IsPermutation whole (new ++ out)
put_more whole left table new x out is put before =
    IsPermutation-trans whole (new ++ (x ∷ table)) (new ++ out)
    (subst (λ (l : List _). IsPermutation whole l) (ap (λ (l : List _). l ++ table) is ∙ append_assoc new (x ∷ []) table) before)
    (IsPermutation-append_right new (x ∷ table) out put)

pub all_popped : {X : Type 0} (P : X → Type 0) (left new : List X) (x : X) → left ≡ new ++ x ∷ [] → All P left → All P new × P x
all_popped {X} P left new x is all = by new (subst (λ (l : List X). All P l) is all)
  where
    by : (new : List X) → All P (new ++ x ∷ []) → All P new × P x
    by [] h = (All-nil P, All-head P x [] h)
    by (y ∷ new) h = let rest = by new (All-tail P y (new ++ x ∷ []) h) in (All-cons P y new (All-head P y (new ++ x ∷ []) h) rest.0, rest.1)

pub on_ok_two : {X E P Q R : Type 0} (r : Result X E) → (P → Q → R) → OnOk r P → OnOk r Q → OnOk r R
on_ok_two (Ok x) f p q = f p q
on_ok_two (Err e) f p q = tt
