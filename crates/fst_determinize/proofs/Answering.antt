-- What determinization answers, in one statement about all faults.
use Rattle.std.proofs.Common.{◌≡◌, ◌⊎◌, inl, inr, ℕ, ◌<◌, ◌≤◌, zero, suc, List, [], ◌∷◌, Ok, Err, Some, length, slice_get, refl, sym, ap, ap₂, ◌∙◌, subst, arith}
use Rattle.std.specs.Option.{option_map}
use Rattle.std.proofs.lemmas.Bool.{cases_eq, cases_order}
use Rattle.std.proofs.lemmas.List.{get_or_past, length-map}
use Rattle.std.specs.Prelude.{Result, IfOk}
use Rattle.fst_semiring.specs.Cost.{Cost}
use Rattle.fst_semiring.specs.declared.arc_type.ArcType.{ArcType}
use Rattle.fst_machine.specs.Graph.{graph_of, no_state}
use Rattle.fst_machine.specs.Machine.{Arc, Machine, State, valued, valued_arc, valued_state}
use Rattle.fst_machine.proofs.Arcs.{mapped_at}
use Rattle.fst_machine.proofs.Walking.{graph_arcs}
use Rattle.fst_trim.specs.FirstArcs.{HasTwoLabels, Meets}
use Rattle.fst_trim.specs.FirstArcs as arcs
use Rattle.fst_walk.specs.Answers.{Stops}
use Rattle.fst_walk.specs.Answers as walked
use Rattle.fst_walk.specs.declared.fault.WalkFault.{WalkFault}
use Rattle.fst_walk.specs.declared.fault.WalkFault.TheVariants as walk
use Rattle.fst_determinize.specs.Answers.{IsExact, Refuses, cause_of}
use Rattle.fst_trim.specs.Weighed.{IsWeighted}
use Rattle.fst_determinize.specs.Ways.{IsAcceptor, subsets}
use Rattle.fst_determinize.specs.declared.fault.DeterminizeFault.{DeterminizeFault}
use Rattle.fst_determinize.specs.declared.fault.DeterminizeFault.TheVariants.{NotAcceptor, StateLimit, TooManyArcs, Overflow, Memory}
use Rattle.fst_determinize.proofs.Theorem.{more_back, more_there}

module _ {V : Type 0} (kind : ArcType) (value : V → Cost) (m : Machine V) (most : ℕ) where
  -- two first arcs with two labels are one
  first_once : (s p t q : ℕ) → Refuses kind value m most (NotAcceptor s p) → Refuses kind value m most (NotAcceptor t q) → (s ≡ t) × (p ≡ q)
  first_once s p t q one two = by_state (cases_order s t) (cases_order p q)
    where
      by_state : (s ≡ t) ⊎ ((s < t) ⊎ (t < s)) → (p ≡ q) ⊎ ((p < q) ⊎ (q < p)) → (s ≡ t) × (p ≡ q)
      by_state (inl e) (inl f) = (e, f)
      by_state (inl e) (inr (inl low)) = absurd (two.1 s p (inr (e, low)) one.0)
      by_state (inl e) (inr (inr high)) = absurd (one.1 t q (inr (sym e, high)) two.0)
      by_state (inr (inl low)) place = absurd (two.1 s p (inl low) one.0)
      by_state (inr (inr high)) place = absurd (one.1 t q (inl high) two.0)

  -- the machine is no acceptor
  pub unfit_exact : {X : Type 0} (state place : ℕ) → Refuses kind value m most (NotAcceptor state place) → IsExact kind value m most {X = X} (Err (NotAcceptor state place))
  unfit_exact {X} state place first (NotAcceptor s p) = (
    (λ e. subst (Refuses kind value m most) (let same : NotAcceptor state place ≡ NotAcceptor s p = cc in same) first),
    (λ r. let same = first_once state place s p first r in ap₂ (λ (i j : ℕ). Err (NotAcceptor i j)) same.0 same.1),
  )
  unfit_exact state place first (StateLimit limit) = ((λ e. absurd (cc)), (λ r. absurd (r.0 state place first.0)))
  unfit_exact state place first TooManyArcs = ((λ e. absurd (cc)), (λ r. absurd (r.0 state place first.0)))
  unfit_exact state place first (Overflow p) = ((λ e. absurd (cc)), (λ r. absurd (r.0 state place first.0)))
  unfit_exact state place first Memory = ((λ e. absurd (cc)), (λ r. absurd r))

  module _ (weighted : IsWeighted kind (graph_of (valued value m))) (acceptor : arcs.IsAcceptor m) where
    -- a cause of the walk is one of determinization
    cause_there : (fault : WalkFault) → Stops (subsets kind (graph_of (valued value m))) most fault → Refuses kind value m most (cause_of fault)
    cause_there (walk.StateLimit limit) s = (acceptor, s.0, more_there kind (graph_of (valued value m)) weighted most s.1)
    cause_there walk.TooManyArcs s = (acceptor, s)
    cause_there (walk.Overflow place) s = (acceptor, s)

    -- and each other cause is that of a fault of the walk
    pub cause_back : (fault : DeterminizeFault) → Refuses kind value m most fault → (from : WalkFault) × (cause_of from ≡ fault) × Stops (subsets kind (graph_of (valued value m))) most from
    cause_back (NotAcceptor state place) r = absurd (acceptor state place r.0)
    cause_back (StateLimit limit) r = (walk.StateLimit limit, refl, (r.1, more_back kind (graph_of (valued value m)) weighted most r.2))
    cause_back TooManyArcs r = (walk.TooManyArcs, refl, r.1)
    cause_back (Overflow place) r = (walk.Overflow place, refl, r.1)
    cause_back Memory r = absurd r

    module _ {X Y : Type 0} where
      -- the walk makes a machine
      pub made_exact : (x : X) (y : Y) → walked.IsExactly (subsets kind (graph_of (valued value m))) {X = X} most (Ok x) → IsExact kind value m most {X = Y} (Ok y)
      made_exact x y h fault = ((λ e. absurd (cc)), (λ r. absurd (let from = cause_back fault r in let wrong : ◌≡◌ {A = Result X WalkFault} (Ok x) (Err from.0) = (h from.0).1 from.2 in cc)))

      -- the walk is stopped
      pub stopped_exact : (stop : WalkFault) → walked.IsExactly (subsets kind (graph_of (valued value m))) {X = X} most (Err stop) → IsExact kind value m most {X = Y} (Err (cause_of stop))
      stopped_exact stop h fault = (
        λ e. subst (Refuses kind value m most) (let same : cause_of stop ≡ fault = cc in same) (cause_there stop ((h stop).0 refl)),
        λ r.
            let from = cause_back fault r in
            let stops : ◌≡◌ {A = Result X WalkFault} (Err stop) (Err from.0) = (h from.0).1 from.2 in
            let same : stop ≡ from.0 = cc in
            ap Err (ap cause_of same ∙ from.1),
      )

-- the graph of an acceptor is one
pub acceptor_graph : {V : Type 0} (value : V → Cost) (m : Machine V) → arcs.IsAcceptor m → IsAcceptor (graph_of (valued value m))
acceptor_graph {V} value m same p k a at = by_state (state_at m.states p)
  where
    state_at : (states : List (State V)) (p : ℕ) → ((s : State V) × (slice_get states p ≡ Some s)) ⊎ (length states ≤ p)
    state_at [] p = inr (omega arith)
    state_at (s ∷ states) zero = inl (s, refl)
    state_at (s ∷ states) (suc p) = by_rest (state_at states p)
      where
        by_rest : ((t : State V) × (slice_get states p ≡ Some t)) ⊎ (length states ≤ p) → ((t : State V) × (slice_get states p ≡ Some t)) ⊎ (length (s ∷ states) ≤ suc p)
        by_rest (inl h) = inl h
        by_rest (inr high) = inr (omega (arith, high))

    by_labels : (x : Arc V ℕ) (arcs : List (Arc V ℕ)) → option_map (λ s. s.arcs) (slice_get m.states p) ≡ Some arcs → slice_get arcs k ≡ Some x → (x.ilabel ≡ x.olabel) ⊎ (x.ilabel ≡ x.olabel → ⊥) → x.ilabel ≡ x.olabel
    by_labels x arcs has there (inl e) = e
    by_labels x arcs has there (inr other) = absurd (same p k (record { arcs = arcs; has = has; holds = record { arc = x; there = there; differ = other } }))

    by_state : ((s : State V) × (slice_get m.states p ≡ Some s)) ⊎ (length m.states ≤ p) → a.ilabel ≡ a.olabel
    by_state (inl h) =
        let has : option_map (λ (s : State V). s.arcs) (slice_get m.states p) ≡ Some h.0.arcs = ap (option_map (λ (s : State V). s.arcs)) h.1 in
        let from = mapped_at (valued_arc value) h.0.arcs k a (ap (λ (bs : List (Arc Cost ℕ)). slice_get bs k) (sym (graph_arcs value m p h.0.arcs has)) ∙ at) in
        subst (λ (b : Arc Cost ℕ). b.ilabel ≡ b.olabel) from.2 (by_labels from.0 h.0.arcs has from.1 (cases_eq from.0.ilabel from.0.olabel))
    by_state (inr high) =
        let size = length-map m.states (valued_state value) in
        let none : slice_get {X = Arc Cost ℕ} [] k ≡ Some a = ap (λ (s : State Cost). slice_get s.arcs k) (sym (get_or_past (valued value m).states p no_state (omega (arith, high, size)))) ∙ at in
        absurd (cc)

-- what holds of a value that was made
pub ok_then : {X E : Type 0} (r : Result X E) (P Q : X → Type 0) → ((x : X) → P x → Q x) → IfOk r P → IfOk r Q
ok_then (Ok x) P Q more h = more x h
ok_then (Err e) P Q more h = h

pub ok_two : {X E : Type 0} (r : Result X E) (P Q R : X → Type 0) → ((x : X) → P x → Q x → R x) → IfOk r P → IfOk r Q → IfOk r R
ok_two (Ok x) P Q R more h k = more x h k
ok_two (Err e) P Q R more h k = h
