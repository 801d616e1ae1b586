-- From what the code holds to the whole result.
use Rattle.std.proofs.Common.{◌≡◌, inl, inr, ℕ, ◌+◌, ◌*◌, ◌<◌, ◌≤◌, List, Result, Ok, Err, [], ◌∷◌, ◌++◌, Option, None, Some, length, map, slice_get, refl, sym, ap, ◌∙◌, subst, arith}
use Rattle.std.specs.List.{All}
use Rattle.std.specs.Prelude.{IfErr, IfOk, IfSome, OnOk}
use Rattle.std.specs.List.Sorted.{IsNonDecreasingBy, IsPermutation}
use Rattle.std.proofs.lemmas.List.{length-append, length-map}
use Rattle.std.proofs.lemmas.List.Sorted.{IsPermutation-map}
use Rattle.std.proofs.lemmas.Option.{get_or_from_slice_get, slice_get_within}
use Rattle.fst_semiring.specs.Cost.{Cost, infinite}
use Rattle.fst_semiring.specs.declared.arc_type.ArcType.{ArcType}
use Rattle.fst_semiring.specs.Semiring.{IsWide}
use Rattle.fst_semiring.proofs.Ranges.{Within-more}
use Rattle.fst_machine.specs.BreadthFirst.{Has}
use Rattle.fst_machine.specs.Cycles.{IsAccessible}
use Rattle.fst_machine.specs.Graph.{Graph, graph_of}
use Rattle.fst_machine.specs.Machine.{IsMachine, Machine, State, most_arcs, most_states, valued, valued_state}
use Rattle.fst_machine.specs.Narrowing.{IsFirstPast}
use Rattle.fst_machine.specs.declared.path.Step.{Step}
use Rattle.fst_machine.proofs.Arcs.{mapped_at}
use Rattle.fst_machine.proofs.PathParts.{IsPath-append}
use Rattle.fst_machine.proofs.Valued.{IsMachine-unvalued, IsMachine-valued}
use Rattle.fst_search.specs.Closure.{IsClosure, IsSilentCycle, Reached, valued_reached}
use Rattle.fst_epsilon.specs.Answers.{IsFine, IsImprovingSilently, IsRemovedMachine, IsRemovedState, KeepsWeights, Stops}
use Rattle.fst_epsilon.specs.Construction.{IsClosureList, IsRemoved, best_final, collected, merged}
use Rattle.fst_epsilon.specs.Gathering.{pairs_of, rank}
use Rattle.fst_epsilon.specs.Making.{IsMade, IsRemoving}
use Rattle.fst_epsilon.specs.declared.fault.EpsilonFault.{EpsilonFault}
use Rattle.fst_epsilon.specs.declared.fault.EpsilonFault.TheVariants.{Overflow, TooManyArcs}
use Rattle.fst_epsilon.proofs.Closures.{Has_map, Stands, all_from, all_has, all_stand, closure_list, pair, pairs_same}
use Rattle.fst_epsilon.proofs.Exact.{least_reached}
use Rattle.fst_epsilon.proofs.Finished.{path_low, removed_fair, removed_graph, removed_keeps, removed_machine}
use Rattle.fst_epsilon.proofs.Growing.{removed_more}
use Rattle.fst_epsilon.proofs.OneAnswer.{fine_passes}

Has_mapped : {X Y : Type 0} (f : X → Y) (xs : List X) (x : X) → Has xs x → Has (map f xs) (f x)
Has_mapped f [] x h = absurd h
Has_mapped f (z ∷ xs) x (inl e) = inl (ap f e)
Has_mapped f (z ∷ xs) x (inr h) = inr (Has_mapped f xs x h)

-- ---- a closure that was sorted

module _ {D : Type 0} (wide : D → Cost) (kind : ArcType) (m : Machine Cost) (good : IsMachine (λ (v : Cost). v) m) (q bound : ℕ) (low : q < length m.states) (old new : List (Reached D))
    (c : IsClosure kind (graph_of m) q bound (map (valued_reached wide) old)) (same : IsPermutation old new) (by_rank : IsNonDecreasingBy (λ (r : Reached D). rank q r.state) new) where
  moved : IsPermutation (map (valued_reached wide) old) (map (valued_reached wide) new)
  moved = IsPermutation-map (valued_reached wide) old new same

  ranked : (i j : ℕ) (r s : Reached Cost) → i ≤ j → slice_get (map (valued_reached wide) new) i ≡ Some r → slice_get (map (valued_reached wide) new) j ≡ Some s → rank q r.state ≤ rank q s.state
  ranked i j r s most e f =
      let a = mapped_at (valued_reached wide) new i r e in
      let b = mapped_at (valued_reached wide) new j s f in
      let less = by_rank i j a.0 most (slice_get_within new j b.0 b.1) in
      let left : rank q r.state ≡ rank q a.0.state = ap (λ (z : Reached Cost). rank q z.state) (sym a.2) in
      let right : rank q s.state ≡ rank q b.0.state = ap (λ (z : Reached Cost). rank q z.state) (sym b.2) in
      let one = ap (λ (z : Reached D). rank q z.state) (get_or_from_slice_get new i a.0 a.0 a.1) in
      let two = ap (λ (z : Reached D). rank q z.state) (get_or_from_slice_get new j b.0 a.0 b.1) in
      omega (arith, less, left, right, one, two)

  stand : All (Stands kind (graph_of m) q bound (map (valued_reached wide) old) (map (valued_reached wide) new) c moved ranked) (map (valued_reached wide) new)
  stand = all_stand kind (graph_of m) q bound (map (valued_reached wide) old) (map (valued_reached wide) new) c moved ranked

  stands : (r : Reached D) → Has new r → Stands kind (graph_of m) q bound (map (valued_reached wide) old) (map (valued_reached wide) new) c moved ranked (valued_reached wide r)
  stands r h = all_has (Stands kind (graph_of m) q bound (map (valued_reached wide) old) (map (valued_reached wide) new) c moved ranked) (map (valued_reached wide) new) (valued_reached wide r) stand (Has_mapped (valued_reached wide) new r h)

  pub sorted_closure : IsClosureList kind (graph_of m) q (pairs_of wide new)
  sorted_closure = subst (IsClosureList kind (graph_of m) q) (sym (pairs_same wide new)) (closure_list kind (graph_of m) q bound (map (valued_reached wide) old) (map (valued_reached wide) new) c moved ranked)

  pub sorted_low : All (λ (r : Reached D). r.state < length m.states) new
  sorted_low = all_from (λ (r : Reached D). r.state < length m.states) new (λ r h.
      let s = stands r h in
      let way = least_reached kind (graph_of m) q r.state (wide r.distance) s.finite s.distance in
      path_low m good way.path q r.state low way.leads)

  pub sorted_wide : bound ≤ most_states * 1000000000000000000 → All (λ (r : Reached D). IsWide (wide r.distance)) new
  sorted_wide few = all_from (λ (r : Reached D). IsWide (wide r.distance)) new (λ r h. Within-more bound 1329227995784915872903807060280344575 (wide r.distance) (omega (arith, few)) (stands r h).within)

-- ---- the states one after the other

module _ (kind : ArcType) (g : Graph ℕ) where
  pub removing_begins : (kept : List (State Cost)) (total : ℕ) (overflow : Option ℕ) → IsMade [] kept total overflow → IsRemoving kind g 0 kept total overflow
  removing_begins kept total overflow made = record { all = []; size = refl; removed = λ q s e. absurd (let wrong : ◌≡◌ {A = Option (State Cost)} None (Some s) = e in cc); made = made }

  pub removing_more : (i : ℕ) (s : State Cost) (kept new : List (State Cost)) (total count : ℕ) (overflow next : Option ℕ) → IsRemovedState kind g i s → (r : IsRemoving kind g i kept total overflow)
      → ((all : List (State Cost)) → length all ≡ i → IsMade all kept total overflow → IsMade (all ++ s ∷ []) new count next) → IsRemoving kind g (i + 1) new count next
  removing_more i s kept new total count overflow next here r made = record {
    all = r.all ++ s ∷ [];
    size = length-append r.all (s ∷ []) ∙ (let one = r.size in omega (arith, one));
    removed = removed_more kind g r.all s r.removed (subst (λ (k : ℕ). IsRemovedState kind g k s) (sym r.size) here);
    made = made r.all r.size r.made;
  }

  -- a state that is gathered
  pub gathered_state : (q : ℕ) (s : State Cost) (pairs : List (ℕ × Cost)) → IsAccessible g q → IsClosureList kind g q pairs → s.arcs ≡ merged [] (collected kind g pairs) → s.final ≡ best_final kind g pairs → IsRemovedState kind g q s
  gathered_state q s pairs near closes arcs final = inl (near, record { closure = pairs; closes = closes; arcs = arcs; final = final })

  pub far_state : (q : ℕ) (s : State Cost) → (IsAccessible g q → ⊥) → s.arcs ≡ [] → s.final ≡ infinite → IsRemovedState kind g q s
  far_state q s far arcs final = inr (far, λ i. record { final = final i; arcs = arcs i })

  -- what epsilon arcs reach from a state that the start reaches
  pub improving_near : (q : ℕ) (steps : List Step) → IsAccessible g q → IsSilentCycle kind g q steps → IsImprovingSilently kind g steps
  improving_near q steps near c = record {
    state = c.state;
    cycle = c.cycle;
    counts = record { first = near.first; path = near.path ++ c.counts.path; starts = near.starts; leads = IsPath-append g near.path c.counts.path near.first q c.state near.leads c.counts.leads };
    class = c.class;
    improves = c.improves;
    same = c.same;
  }

-- ---- the whole

module _ (kind : ArcType) (m : Machine Cost) (good : IsMachine (λ (v : Cost). v) m) (n : ℕ) (size : n ≡ length m.states) (kept : List (State Cost)) (total : ℕ) where
  abbrev result : List (State Cost) → Machine Cost
  result states = record { start = m.start; states = states }

  whole : (overflow : Option ℕ) (r : IsRemoving kind (graph_of m) n kept total overflow) → IsRemovedMachine kind m (result r.all)
  whole overflow r = record { start = refl; size = r.size ∙ size; states = r.removed }

  pub removed_many : (overflow : Option ℕ) → IsRemoving kind (graph_of m) n kept total overflow → most_arcs < total → Stops kind m TooManyArcs
  removed_many overflow r high = (
    removed_fair m good kind (result r.all) (whole overflow r),
    record { result = result r.all; removed = whole overflow r; many = r.made.many high },
  )

  pub removed_out : (state : ℕ) → IsRemoving kind (graph_of m) n kept total (Some state) → total ≤ most_arcs → Stops kind m (Overflow state)
  removed_out state r low = (
    removed_fair m good kind (result r.all) (whole (Some state) r),
    record { result = result r.all; removed = whole (Some state) r; few = (let one = r.made.few low in omega (arith, low, one)); past = past_start (r.made.range low) },
  )
    where
      past_start : IsFirstPast (record { start = None; states = r.all }) state → IsFirstPast (result r.all) state
      past_start p = record { here = p.here; there = p.there; past = p.past; before = p.before }

  pub removed_fine : IsRemoving kind (graph_of m) n kept total None → total ≤ most_arcs → IsFine kind m (result kept)
  removed_fine r low = subst (λ (states : List (State Cost)). IsFine kind m (result states)) (sym (r.made.all_kept low refl)) (record {
    removed = whole None r;
    few = (let one = r.made.few low in omega (arith, low, one));
    range = r.made.range low;
  })

  pub fine_machine : (h : Machine Cost) → IsFine kind m h → IsMachine (λ (v : Cost). v) h
  fine_machine h fine = removed_machine m good kind h fine.removed fine.few

-- ---- the whole, of states as they are kept

module _ {V : Type 0} (value : V → Cost) (kind : ArcType) (given : Machine V) (machine : IsMachine value given) (kept : List (State V)) (total : ℕ) (overflow : Option ℕ)
    (r : IsRemoving kind (graph_of (valued value given)) (length given.states) (map (valued_state value) kept) total overflow) where
  good_given : IsMachine (λ (v : Cost). v) (valued value given)
  good_given = IsMachine-valued value given machine

  same_size : length given.states ≡ length (valued value given).states
  same_size = sym (length-map given.states (valued_state value))

  removing_as : (o : Option ℕ) → overflow ≡ o → IsRemoving kind (graph_of (valued value given)) (length given.states) (map (valued_state value) kept) total o
  removing_as o is = subst (λ (o : Option ℕ). IsRemoving kind (graph_of (valued value given)) (length given.states) (map (valued_state value) kept) total o) is r

  pub ends_many : most_arcs < total → Stops kind (valued value given) TooManyArcs
  ends_many high = removed_many kind (valued value given) good_given (length given.states) same_size (map (valued_state value) kept) total overflow r high

  pub ends_out : (state : ℕ) → overflow ≡ Some state → total ≤ most_arcs → Stops kind (valued value given) (Overflow state)
  ends_out state is low = removed_out kind (valued value given) good_given (length given.states) same_size (map (valued_state value) kept) total state (removing_as (Some state) is) low

  module _ (is : overflow ≡ None) (low : total ≤ most_arcs) (start : Option ℕ) (same : start ≡ given.start) where
    abbrev made : Machine V
    made = record { start = start; states = kept }

    made_fine : IsFine kind (valued value given) (valued value made)
    made_fine = subst (λ (o : Option ℕ). IsFine kind (valued value given) (record { start = o; states = map (valued_state value) kept })) (sym same)
        (removed_fine kind (valued value given) good_given (length given.states) same_size (map (valued_state value) kept) total (removing_as None is) low)

    pub ends_machine : IsMachine value made
    ends_machine = IsMachine-unvalued value made (fine_machine kind (valued value given) good_given (length given.states) same_size (map (valued_state value) kept) total (valued value made) made_fine)

    module _ (h : Machine V) (is_made : h ≡ made) where
      pub ends_fine : IsFine kind (valued value given) (valued value h)
      ends_fine = subst (λ (h : Machine V). IsFine kind (valued value given) (valued value h)) (sym is_made) made_fine

      pub ends_keeps : KeepsWeights kind (valued value given) (valued value h)
      ends_keeps = removed_keeps (valued value given) good_given kind (valued value h) ends_fine.removed

      pub ends_graph : IsRemoved kind (graph_of (valued value given)) (graph_of (valued value h))
      ends_graph = removed_graph (valued value given) good_given kind (valued value h) ends_fine.removed

-- nothing stands against what is made
pub passes_ok : {X E : Type 0} (kind : ArcType) (m : Machine Cost) (view : X → Machine Cost) (r : Result X E) → IfOk r (λ x. IsFine kind m (view x)) → OnOk r ((fault : EpsilonFault) → Stops kind m fault → ⊥)
passes_ok kind m view (Ok x) fine = fine_passes kind m (view x) fine
passes_ok kind m view (Err e) fine = tt

-- ---- what an answer says, once it is known

pub in_ok : {T E : Type 0} (r : Result T E) (x : T) (P : T → Type 0) → r ≡ Ok x → IfOk r P → P x
in_ok r x P e h = subst (λ (s : Result _ _). IfOk s P) e h

pub on_ok : {T E : Type 0} (r : Result T E) (x : T) (P : Type 0) → r ≡ Ok x → OnOk r P → P
on_ok r x P e h = subst (λ (s : Result _ _). OnOk s P) e h

pub in_err : {T E : Type 0} (r : Result T E) (f : E) (P : E → Type 0) → r ≡ Err f → IfErr r P → P f
in_err r f P e h = subst (λ (s : Result _ _). IfErr s P) e h

pub in_some : {T : Type 0} (o : Option T) (x : T) (P : T → Type 0) → o ≡ Some x → IfSome o P → P x
in_some o x P e h = subst (λ (s : Option _). IfSome s P) e h

-- ---- a closure in the wide form

module _ {D E : Type 0} (value : D → Cost) (wide : E → Cost) (list : List (Reached D)) (other : List (Reached E)) (same : map (valued_reached wide) other ≡ map (valued_reached value) list) where
  pub pairs_moved : pairs_of wide other ≡ pairs_of value list
  pairs_moved = pairs_same wide other ∙ (ap (map pair) same ∙ sym (pairs_same value list))

  pub states_moved : (n : ℕ) → All (λ (r : Reached D). r.state < n) list → All (λ (r : Reached E). r.state < n) other
  states_moved n all = all_from (λ (r : Reached E). r.state < n) other (λ r h.
      let from = Has_map (valued_reached value) list (valued_reached wide r) (subst (λ (zs : List (Reached Cost)). Has zs (valued_reached wide r)) same (Has_mapped (valued_reached wide) other r h)) in
      let low = all_has (λ (x : Reached D). x.state < n) list from.0 all from.1 in
      let is : from.0.state ≡ r.state = ap (λ (z : Reached Cost). z.state) from.2 in
      omega (arith, low, is))
