-- The moves of names, sorted one after the other, and entries.
use Rattle.std.proofs.Common.{◌≡◌, ◌≢◌, ◌⊎◌, inl, inr, ℕ, ◌+◌, ◌<◌, ◌≤◌, zero, suc, List, [], ◌∷◌, ◌++◌, Option, None, Some, length, map, get_or, set, refl, sym, ap, subst, ◌∙◌, arith}
use Rattle.std.proofs.lemmas.Bool.{cases_eq}
use Rattle.std.proofs.lemmas.List.{get_or-set_same, get_or-set_other, length-append, length-set}
use Rattle.fst_semiring.specs.Cost.{Cost}
use Rattle.fst_semiring.specs.declared.arc_type.ArcType.{ArcType}
use Rattle.fst_semiring.specs.Semiring.{times}
use Rattle.fst_nbest.specs.declared.entry.Entry.{Entry}
use Rattle.fst_nbest.specs.Words.{Words, Ahead, ahead_of, InOrder, IsOrder}
use Rattle.fst_nbest.specs.Entries.{list_at, AreOrders, IsEntry, IsLeft, OrdersGrow}

map_set : {X Y : Type 0} (f : X → Y) (xs : List X) (i : ℕ) (x : X) → map f (set xs i x) ≡ set (map f xs) i (f x)
map_set f [] i x = refl
map_set f (y ∷ xs) zero x = refl
map_set f (y ∷ xs) (suc i) x = ap (λ (ys : List _). f y ∷ ys) (map_set f xs i x)

no_element : {X : Type 0} (xs : List X) → length xs ≡ 0 → xs ≡ []
no_element [] e = refl
no_element (x ∷ xs) e = absurd (omega (arith, e))

module _ (kind : ArcType) (g : Words ℕ) (dist : ℕ → Cost) (count : ℕ → ℕ) {X : Type 0} (f : X → List ℕ) (xs : List X) (i : ℕ) (m : X) (low : i < length (map f xs)) where
  set_here : list_at (map f (set xs i m)) i ≡ f m
  set_here = ap (λ (l : List (List ℕ)). list_at l i) (map_set f xs i m) ∙ get_or-set_same (map f xs) i (f m) [] low

  set_other : (x : ℕ) → (x ≡ i → ⊥) → list_at (map f (set xs i m)) x ≡ list_at (map f xs) x
  set_other x other = ap (λ (l : List (List ℕ)). list_at l x) (map_set f xs i m) ∙ get_or-set_other (map f xs) i x (f m) [] other

  pub sorted_orders : IsOrder kind g dist count i (f m) → AreOrders kind g dist count (map f xs) → AreOrders kind g dist count (map f (set xs i m))
  sorted_orders order orders x some = by (cases_eq x i)
    where
      by : (x ≡ i) ⊎ (x ≡ i → ⊥) → IsOrder kind g dist count x (list_at (map f (set xs i m)) x)
      by (inl e) = subst (λ (y : ℕ). IsOrder kind g dist count y (list_at (map f (set xs i m)) y)) (sym e) (subst (λ (l : List ℕ). IsOrder kind g dist count i l) (sym set_here) order)
      by (inr other) = subst (λ (l : List ℕ). IsOrder kind g dist count x l) (sym (set_other x other)) (orders x (λ e. some (set_other x other ∙ e)))

  pub sorted_there : (f m ≡ [] → ⊥) → list_at (map f (set xs i m)) i ≢ []
  sorted_there some e = some (sym set_here ∙ e)

  pub sorted_grow : list_at (map f xs) i ≡ [] → OrdersGrow (map f xs) (map f (set xs i m))
  sorted_grow none = record { size = ap length (map_set f xs i m) ∙ length-set (map f xs) i (f m); same = λ x some. by x some (cases_eq x i) }
    where
      by : (x : ℕ) → list_at (map f xs) x ≢ [] → (x ≡ i) ⊎ (x ≡ i → ⊥) → list_at (map f (set xs i m)) x ≡ list_at (map f xs) x
      by x some (inl e) = absurd (some (ap (list_at (map f xs)) e ∙ none))
      by x some (inr other) = set_other x other

pub none_yet : (l : List ℕ) (n : ℕ) → n ≡ length l → n ≤ 0 → l ≡ []
none_yet l n count low = no_element l (omega (arith, count, low))

pub some_there : (l : List ℕ) (n : ℕ) → n ≡ length l → 0 < n → l ≢ []
some_there l n count some e = omega (arith, count, some, ap length e)

pub grow_same : (orders : List (List ℕ)) → OrdersGrow orders orders
grow_same orders = record { size = refl; same = λ x some. refl }

-- one more name without moves
pub none_more : {X : Type 0} (f : X → List ℕ) (xs : List X) (x : X) (new : List X) → new ≡ xs ++ x ∷ [] → f x ≡ [] → ((i : ℕ) → list_at (map f xs) i ≡ []) → (i : ℕ) → list_at (map f new) i ≡ []
none_more f xs x new is none before i = ap (λ (l : List _). list_at (map f l) i) is ∙ by xs i before
  where
    by : (xs : List _) (i : ℕ) → ((i : ℕ) → list_at (map f xs) i ≡ []) → list_at (map f (xs ++ x ∷ [])) i ≡ []
    by [] zero h = none
    by [] (suc i) h = refl
    by (y ∷ xs) zero h = h 0
    by (y ∷ xs) (suc i) h = by xs i (λ j. h (suc j))

-- a move in an order has something ahead
pub in_order_at : {N : Type 0} (kind : ArcType) (g : Words N) (dist : N → Cost) (count : N → ℕ) (x : N) (moves : List ℕ) (k : ℕ) → InOrder kind g dist count x moves → k < length moves → (e : Ahead) × (ahead_of kind g dist count x (get_or moves k 0) ≡ Some e)
in_order_at kind g dist count x [] k order low = absurd (omega (arith, low))
in_order_at kind g dist count x (m ∷ moves) zero order low = (order.0, order.1)
in_order_at kind g dist count x (m ∷ moves) (suc k) order low = in_order_at kind g dist count x moves k order.3 (omega (arith, low))

pub not_none : {X : Type 0} (o : Option X) (x : X) → o ≡ Some x → o ≡ None → ⊥
not_none o x e f = let q : Some x ≡ None = sym e ∙ f in cc

module _ {D : Type 0} (kind : ArcType) (g : Words ℕ) (dist : ℕ → Cost) (count : ℕ → ℕ) (value : D → Cost) (bounded : ℕ → D → Type 0) (orders : List (List ℕ)) (sorted : AreOrders kind g dist count orders) where
  some_list : (l : List ℕ) (k : ℕ) → k < length l → l ≡ [] → ⊥
  some_list l k low e = omega (arith, low, ap length e)

  pub move_at : (x k : ℕ) → k < length (list_at orders x) → (e : Ahead) × (ahead_of kind g dist count x (get_or (list_at orders x) k 0) ≡ Some e)
  move_at x k low = in_order_at kind g dist count x (list_at orders x) k (sorted x (some_list (list_at orders x) k low)).ordered low

  -- the family that is left is an entry
  pub left_entry : (path : ℕ) (core e : Entry D) (old new : List (Entry D)) (moves : List ℕ) (ahead : ℕ) (total : D) → IsEntry kind g dist count value bounded orders core → moves ≡ list_at orders core.name → core.rank + 1 < length moves
      → ((a : Ahead) → ahead_of kind g dist count core.name (get_or moves (core.rank + 1) 0) ≡ Some a → (value total ≡ times kind (value core.front) a.total) × (ahead ≡ a.arcs))
      → e ≡ record { total = total; front = core.front; arcs = core.depth + ahead; path = path; depth = core.depth; name = core.name; rank = core.rank + 1 } → new ≡ old ++ e ∷ []
      → IsLeft kind g dist count value bounded orders path core old new
  left_entry path core e old new moves ahead total c same low look is put =
      let inside : core.rank + 1 < length (list_at orders core.name) = subst (λ (l : List ℕ). core.rank + 1 < length l) same low in
      let there = move_at core.name (core.rank + 1) inside in
      let seen = look there.0 (ap (λ (l : List ℕ). ahead_of kind g dist count core.name (get_or l (core.rank + 1) 0)) same ∙ there.1) in
      inr (
        e,
        put,
        ap (λ (f : Entry D). f.path) is,
        ap (λ (f : Entry D). f.depth) is,
        ap (λ (f : Entry D). f.name) is,
        ap (λ (f : Entry D). f.front) is,
        ap (λ (f : Entry D). f.rank) is,
        subst (λ (f : Entry D). IsEntry kind g dist count value bounded orders f) (sym is)
            (record { name = c.name; rank = inside; ahead = there.0; is = there.1; total = seen.0; arcs = ap (λ (n : ℕ). core.depth + n) seen.1; bound = c.bound; long = c.long }),
      )

pub pushed_size : {X : Type 0} (xs new : List X) (x : X) (n : ℕ) → new ≡ xs ++ x ∷ [] → length xs ≡ n → length new ≡ n + 1
pushed_size xs new x n is count = ap length is ∙ (length-append xs (x ∷ []) ∙ omega (arith, count))
