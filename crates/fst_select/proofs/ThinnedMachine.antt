-- Machines with fewer arcs.
use Rattle.std.proofs.Common.{◌≡◌, ℕ, ◌+◌, ◌<◌, ◌≤◌, zero, suc, Bool, true, false, cond, not, is_lt, List, [], ◌∷◌, ◌++◌, Some, filter, length, map, get_or, slice_get, take, refl, sym, ap, ap₂, ◌∙◌, subst, arith}
use Rattle.std.specs.declared.cmp.Ordering.{Ordering}
use Rattle.std.specs.declared.cmp.Ordering.TheVariants.{Less, Equal, Greater}
use Rattle.std.specs.Bool.{Decides}
use Rattle.std.specs.List.{All, AllByRecursion}
use Rattle.std.specs.Option.{IfSome}
use Rattle.std.proofs.lemmas.List.Elements.{recursion_from_All, All-from_recursion, filter_more}
use Rattle.std.proofs.lemmas.List.Sums.{sum_by-cons, sum_by-take-le}
use Rattle.std.proofs.lemmas.Option.{same_Some}
use Rattle.fst_semiring.specs.Cost.{Cost, cost_cmp, infinite, best, finite}
use Rattle.fst_semiring.specs.declared.arc_type.ArcType.{ArcType}
use Rattle.fst_semiring.specs.Semiring.{times}
use Rattle.fst_semiring.proofs.Order.{plus_least, plus_unless}
use Rattle.fst_machine.specs.Machine.{Arc, IsArc, IsMachine, Machine, State, arc_total, valued, valued_arc, valued_state}
use Rattle.fst_machine.specs.Graph.{graph_of, no_state}
use Rattle.fst_select.specs.Surveyed.{IsWithinBound}
use Rattle.fst_select.specs.Thinned.{arc_passes, is_within, last_of, thinned, thinned_state, thinned_states}

-- ---- the test

-- it decides whether a weight is within the bound
pub within_decides : (bound w : Cost) → Decides (is_within bound w) (IsWithinBound bound w)
within_decides bound infinite = ((λ e. absurd cc), (λ h. absurd (h.0 refl)))
within_decides bound best = by_order (cost_cmp bound best) refl
  where
    by_order : (o : Ordering) → cost_cmp bound best ≡ o → Decides (not (is_lt o)) (IsWithinBound bound best)
    by_order Less e = ((λ wrong. absurd cc), (λ h. absurd (plus_least best bound h.1 e)))
    by_order Equal e = ((λ yes. ((λ z. absurd cc), plus_unless best bound (λ l. let wrong : Less ≡ Equal = sym l ∙ e in absurd cc))), (λ h. refl))
    by_order Greater e = ((λ yes. ((λ z. absurd cc), plus_unless best bound (λ l. let wrong : Less ≡ Greater = sym l ∙ e in absurd cc))), (λ h. refl))
within_decides bound (finite a b) = by_order (cost_cmp bound (finite a b)) refl
  where
    by_order : (o : Ordering) → cost_cmp bound (finite a b) ≡ o → Decides (not (is_lt o)) (IsWithinBound bound (finite a b))
    by_order Less e = ((λ wrong. absurd cc), (λ h. absurd (plus_least (finite a b) bound h.1 e)))
    by_order Equal e = ((λ yes. ((λ z. absurd cc), plus_unless (finite a b) bound (λ l. let wrong : Less ≡ Equal = sym l ∙ e in absurd cc))), (λ h. refl))
    by_order Greater e = ((λ yes. ((λ z. absurd cc), plus_unless (finite a b) bound (λ l. let wrong : Less ≡ Greater = sym l ∙ e in absurd cc))), (λ h. refl))

-- ---- lists that a test thins out

-- what is left passes, and stood in the list
pub filter_at : {X : Type 0} (p : X → Bool) (xs : List X) (j : ℕ) (x : X) → slice_get (filter p xs) j ≡ Some x → (k : ℕ) × (slice_get xs k ≡ Some x) × (p x ≡ true)
filter_at p [] j x e = absurd cc
filter_at {X} p (y ∷ ys) j x e = by_test (p y) refl j e (λ i more. filter_at p ys i x more)
  where
    by_test : (b : Bool) → p y ≡ b → (j : ℕ) → slice_get (cond b (y ∷ filter p ys) (filter p ys)) j ≡ Some x → ((i : ℕ) → slice_get (filter p ys) i ≡ Some x → (k : ℕ) × (slice_get ys k ≡ Some x) × (p x ≡ true)) → (k : ℕ) × (slice_get (y ∷ ys) k ≡ Some x) × (p x ≡ true)
    by_test true is zero e rest = let same : y ≡ x = same_Some y x e in (0, e, subst (λ (z : X). p z ≡ true) same is)
    by_test true is (suc j) e rest = let r = rest j e in (suc r.0, r.1, r.2)
    by_test false is j e rest = let r = rest j e in (suc r.0, r.1, r.2)

-- what passes is left
pub at_filter : {X : Type 0} (p : X → Bool) (xs : List X) (k : ℕ) (x : X) → slice_get xs k ≡ Some x → p x ≡ true → (j : ℕ) × (slice_get (filter p xs) j ≡ Some x)
at_filter p [] k x e passes = absurd cc
at_filter {X} p (y ∷ ys) zero x e passes =
    let same : y ≡ x = same_Some y x e in
    let here : p y ≡ true = ap p same ∙ passes in
    (0, ap (λ (b : Bool). slice_get (cond b (y ∷ filter p ys) (filter p ys)) 0) here ∙ e)
at_filter {X} p (y ∷ ys) (suc k) x e passes = by_test (p y) (at_filter p ys k x e passes)
  where
    by_test : (b : Bool) → (j : ℕ) × (slice_get (filter p ys) j ≡ Some x) → (j : ℕ) × (slice_get (cond b (y ∷ filter p ys) (filter p ys)) j ≡ Some x)
    by_test true r = (suc r.0, r.1)
    by_test false r = r

-- one element more is looked at
pub keep_step : {X : Type 0} (p : X → Bool) (xs kept new : List X) (i : ℕ) (y : X) (b : Bool) → i < length xs → y ≡ get_or xs i y → p y ≡ b → kept ≡ filter p (take i xs) → new ≡ kept ++ cond b (y ∷ []) [] → new ≡ filter p (take (i + 1) xs)
keep_step {X} p xs kept new i y b low read test was put =
    put ∙ (ap (λ (ks : List X). ks ++ cond b (y ∷ []) []) was
    ∙ sym (filter_more p xs i y low ∙ (ap (λ (z : X). filter p (take i xs) ++ cond (p z) (z ∷ []) []) (sym read) ∙ ap (λ (c : Bool). filter p (take i xs) ++ cond c (y ∷ []) []) test)))

filter-few : {X : Type 0} (p : X → Bool) (xs : List X) → length (filter p xs) ≤ length xs
filter-few p [] = omega arith
filter-few p (y ∷ ys) = by_test (p y) (filter-few p ys)
  where
    by_test : (b : Bool) → length (filter p ys) ≤ length ys → length (cond b (y ∷ filter p ys) (filter p ys)) ≤ suc (length ys)
    by_test true few = omega arith
    by_test false few = omega arith

filter-all : {X : Type 0} (p : X → Bool) (P : X → Type 0) (xs : List X) → AllByRecursion P xs → AllByRecursion P (filter p xs)
filter-all p P [] all = tt
filter-all p P (y ∷ ys) all = by_test (p y) (filter-all p P ys all.1)
  where
    by_test : (b : Bool) → AllByRecursion P (filter p ys) → AllByRecursion P (cond b (y ∷ filter p ys) (filter p ys))
    by_test true rest = (all.0, rest)
    by_test false rest = rest

-- a test of images
filter-map : {X Y : Type 0} (f : X → Y) (p : Y → Bool) (xs : List X) → map f (filter (λ x. p (f x)) xs) ≡ filter p (map f xs)
filter-map f p [] = refl
filter-map f p (x ∷ xs) = by_test (p (f x)) (filter-map f p xs)
  where
    by_test : (b : Bool) → map f (filter (λ y. p (f y)) xs) ≡ filter p (map f xs) → map f (cond b (x ∷ filter (λ y. p (f y)) xs) (filter (λ y. p (f y)) xs)) ≡ cond b (f x ∷ filter p (map f xs)) (filter p (map f xs))
    by_test true rest = ap (λ zs. f x ∷ zs) rest
    by_test false rest = rest

-- the arcs of one state more
total_more : {V : Type 0} (states : List (State V)) (i : ℕ) (t : State V) → slice_get states i ≡ Some t → arc_total (take (i + 1) states) ≡ arc_total (take i states) + length t.arcs
total_more [] i t there = absurd cc
total_more {V} (u ∷ states) zero t there =
    let one = sum_by-cons (λ (v : State V). length v.arcs) u [] in
    let same : length u.arcs ≡ length t.arcs = ap (λ (v : State V). length v.arcs) (same_Some u t there) in
    omega (arith, one, same)
total_more {V} (u ∷ states) (suc i) t there =
    let rest = total_more states i t there in
    let more : suc i + 1 ≡ suc (i + 1) = omega arith in
    let all : arc_total (take (suc i + 1) (u ∷ states)) ≡ arc_total (u ∷ take (i + 1) states) = ap (λ (k : ℕ). arc_total (take k (u ∷ states))) more in
    let one = sum_by-cons (λ (v : State V). length v.arcs) u (take (i + 1) states) in
    let two = sum_by-cons (λ (v : State V). length v.arcs) u (take i states) in
    omega (arith, rest, all, one, two)

-- ---- the machine

module _ {V : Type 0} (value : V → Cost) (none : V) (kind : ArcType) (bound : Cost) (s d : ℕ → Cost) where
  thinned-length : (at : ℕ) (states : List (State V)) → length (thinned_states value kind bound none s d at states) ≡ length states
  thinned-length at [] = refl
  thinned-length at (t ∷ states) = ap suc (thinned-length (at + 1) states)

  thinned-few : (at : ℕ) (states : List (State V)) → arc_total (thinned_states value kind bound none s d at states) ≤ arc_total states
  thinned-few at [] = omega arith
  thinned-few at (t ∷ states) =
      let new = sum_by-cons (λ (u : State V). length u.arcs) (thinned_state value kind bound none s d at t) (thinned_states value kind bound none s d (at + 1) states) in
      let old = sum_by-cons (λ (u : State V). length u.arcs) t states in
      let here = filter-few (arc_passes value kind bound d (s at)) t.arcs in
      let rest = thinned-few (at + 1) states in
      omega (arith, new, old)

  thinned-good : (n at : ℕ) (states : List (State V)) → AllByRecursion (λ t. All (IsArc value n) t.arcs) states → AllByRecursion (λ t. All (IsArc value n) t.arcs) (thinned_states value kind bound none s d at states)
  thinned-good n at [] good = tt
  thinned-good n at (t ∷ states) good = (
    All-from_recursion (IsArc value n) _ (filter-all (arc_passes value kind bound d (s at)) (IsArc value n) t.arcs (recursion_from_All (IsArc value n) t.arcs good.0)),
    thinned-good n (at + 1) states good.1,
  )

  -- what is left is a machine
  pub thinned_is_machine : (m : Machine V) → IsMachine value m → IsMachine value (thinned value kind bound none s d m)
  thinned_is_machine m h =
      let count : length (thinned_states value kind bound none s d 0 m.states) ≡ length m.states = thinned-length 0 m.states in
      let few = thinned-few 0 m.states in
      record {
        start = subst (λ (n : ℕ). IfSome m.start (λ t. t < n)) (sym count) h.start;
        arcs = subst (λ (n : ℕ). All (λ (t : State V). All (IsArc value n) t.arcs) (thinned_states value kind bound none s d 0 m.states)) (sym count)
            (All-from_recursion (λ (t : State V). All (IsArc value (length m.states)) t.arcs) _ (thinned-good (length m.states) 0 m.states (recursion_from_All (λ (t : State V). All (IsArc value (length m.states)) t.arcs) m.states h.arcs)));
        few_states = omega (arith, count, h.few_states);
        few_arcs = omega (arith, few, h.few_arcs);
      }

  -- one state more
  thinned-more : (at i : ℕ) (states : List (State V)) (t : State V) → slice_get states i ≡ Some t
      → thinned_states value kind bound none s d at (take (i + 1) states) ≡ thinned_states value kind bound none s d at (take i states) ++ thinned_state value kind bound none s d (at + i) t ∷ []
  thinned-more at i [] t there = absurd cc
  thinned-more at zero (u ∷ states) t there =
      let same : u ≡ t = same_Some u t there in
      let here : at + 0 ≡ at = omega arith in
      ap₂ (λ (k : ℕ) (v : State V). thinned_state value kind bound none s d k v ∷ []) (sym here) same
  thinned-more at (suc i) (u ∷ states) t there =
      let rest = thinned-more (at + 1) i states t there in
      let place : at + 1 + i ≡ at + suc i = omega arith in
      let more : suc i + 1 ≡ suc (i + 1) = omega arith in
      ap (λ (k : ℕ). thinned_states value kind bound none s d at (take k (u ∷ states))) more
      ∙ ap (λ (zs : List (State V)). thinned_state value kind bound none s d at u ∷ zs) (rest ∙ ap (λ (k : ℕ). thinned_states value kind bound none s d (at + 1) (take i states) ++ thinned_state value kind bound none s d k t ∷ []) place)

  -- the states so far, with one more, and the arcs that they have
  pub thinned_next : (states old new : List (State V)) (i : ℕ) (t : State V) (last : V) (arcs : List (Arc V ℕ)) → slice_get states i ≡ Some t → last ≡ last_of value kind bound none (s i) t.final → arcs ≡ filter (arc_passes value kind bound d (s i)) t.arcs
      → new ≡ old ++ record { final = last; arcs = arcs } ∷ [] → old ≡ thinned_states value kind bound none s d 0 (take i states) → new ≡ thinned_states value kind bound none s d 0 (take (i + 1) states)
  thinned_next states old new i t last arcs there final left put was =
      let here : 0 + i ≡ i = omega arith in
      let state : ◌≡◌ {A = State V} (record { final = last; arcs = arcs }) (thinned_state value kind bound none s d i t) = λ j. record { final = final j; arcs = left j } in
      put ∙ (ap₂ (λ (zs : List (State V)) (z : State V). zs ++ z ∷ []) was (state ∙ ap (λ (k : ℕ). thinned_state value kind bound none s d k t) (sym here)) ∙ sym (thinned-more 0 i states t there))

  -- there is room for the arcs of the next
  pub room_for : (states old : List (State V)) (i n : ℕ) (t : State V) (arcs : List (Arc V ℕ)) → slice_get states i ≡ Some t → arcs ≡ filter (arc_passes value kind bound d (s i)) t.arcs → old ≡ thinned_states value kind bound none s d 0 (take i states) → arc_total states ≤ n → arc_total old + length arcs ≤ n
  room_for states old i n t arcs there left was most =
      let few = thinned-few 0 (take i states) in
      let here = filter-few (arc_passes value kind bound d (s i)) t.arcs in
      let size : length arcs ≡ length (filter (arc_passes value kind bound d (s i)) t.arcs) = ap length left in
      let count : arc_total old ≡ arc_total (thinned_states value kind bound none s d 0 (take i states)) = ap arc_total was in
      let more = total_more states i t there in
      let cut = sum_by-take-le (λ (u : State V). length u.arcs) states (i + 1) in
      omega (arith, few, here, size, count, more, cut)

-- the same with each weight as its value
module _ {V : Type 0} (value : V → Cost) (none : V) (is_none : value none ≡ infinite) (kind : ArcType) (bound : Cost) (s d : ℕ → Cost) where
  thinned_states-valued : (at : ℕ) (states : List (State V)) → map (valued_state value) (thinned_states value kind bound none s d at states) ≡ thinned_states (λ v. v) kind bound infinite s d at (map (valued_state value) states)
  thinned_states-valued at [] = refl
  thinned_states-valued at (t ∷ states) = ap₂ (λ (z : State Cost) (zs : List (State Cost)). z ∷ zs) (λ j. record { final = last (is_within bound (times kind (s at) (value t.final))) j; arcs = filter-map (valued_arc value) (arc_passes (λ v. v) kind bound d (s at)) t.arcs j }) (thinned_states-valued (at + 1) states)
    where
      last : (b : Bool) → value (cond b t.final none) ≡ cond b (value t.final) infinite
      last true = refl
      last false = is_none

  pub thinned-valued : (m : Machine V) → valued value (thinned value kind bound none s d m) ≡ thinned (λ v. v) kind bound infinite s d (valued value m)
  thinned-valued m = ap (λ (states : List (State Cost)). record { start = m.start; states = states }) (thinned_states-valued 0 m.states)

-- ---- its graph

module _ (kind : ArcType) (bound : Cost) (s d : ℕ → Cost) where
  abbrev pub thin : Machine Cost → Machine Cost
  thin m = thinned (λ v. v) kind bound infinite s d m

  state_is : (at p q : ℕ) (states : List (State Cost)) → p ≡ at + q
      → ((get_or (thinned_states (λ v. v) kind bound infinite s d at states) q no_state).arcs ≡ filter (arc_passes (λ v. v) kind bound d (s p)) (get_or states q no_state).arcs)
      × ((get_or (thinned_states (λ v. v) kind bound infinite s d at states) q no_state).final ≡ last_of (λ v. v) kind bound infinite (s p) (get_or states q no_state).final)
  state_is at p q [] e = (refl, sym (same (is_within bound (times kind (s p) infinite))))
    where
      same : (b : Bool) → cond b infinite infinite ≡ infinite
      same true = refl
      same false = refl
  state_is at p zero (t ∷ states) e =
      let here : at ≡ p = omega (arith, e) in
      (ap (λ (k : ℕ). filter (arc_passes (λ v. v) kind bound d (s k)) t.arcs) here, ap (λ (k : ℕ). last_of (λ v. v) kind bound infinite (s k) t.final) here)
  state_is at p (suc q) (t ∷ states) e = state_is (at + 1) p q states (omega (arith, e))

  pub thinned_arcs : (m : Machine Cost) (p : ℕ) → (graph_of (thin m)).arcs p ≡ filter (arc_passes (λ v. v) kind bound d (s p)) ((graph_of m).arcs p)
  thinned_arcs m p = (state_is 0 p p m.states (omega arith)).0

  pub thinned_final : (m : Machine Cost) (p : ℕ) → (graph_of (thin m)).final p ≡ last_of (λ v. v) kind bound infinite (s p) ((graph_of m).final p)
  thinned_final m p = (state_is 0 p p m.states (omega arith)).1
