-- What a composition answers, in one statement about all faults.
use Rattle.std.proofs.Common.{◌≡◌, ◌↔◌, inl, inr, ℕ, Ok, Err, refl, ap, ◌∙◌, subst}
use Rattle.std.specs.Prelude.{Result, IfOk}
use Rattle.fst_semiring.specs.Cost.{Cost}
use Rattle.fst_semiring.specs.declared.arc_type.ArcType.{ArcType}
use Rattle.fst_machine.specs.Graph.{graph_of}
use Rattle.fst_machine.specs.Machine.{Machine, valued}
use Rattle.fst_trim.specs.declared.side.Side.TheVariants.{Input, Output}
use Rattle.fst_trim.proofs.Valued.{IsSortedOn-valued}
use Rattle.fst_compose.specs.Answers.{IsExact, IsSorted, Refuses, cause_of}
use Rattle.fst_compose.specs.Matching.{IsOrdered}
use Rattle.fst_compose.specs.declared.matching.Ordered.{Ordered}
use Rattle.fst_compose.specs.declared.matching.Ordered.TheVariants.{First, Second, Both}
use Rattle.fst_walk.specs.Answers.{Stops}
use Rattle.fst_walk.specs.Answers as walked
use Rattle.fst_walk.specs.declared.fault.WalkFault.{WalkFault}
use Rattle.fst_walk.specs.declared.fault.WalkFault.TheVariants as walk
use Rattle.fst_compose.specs.Composition.{composed}
use Rattle.fst_compose.specs.declared.fault.ComposeFault.{ComposeFault}
use Rattle.fst_compose.specs.declared.fault.ComposeFault.TheVariants.{NotSorted, StateLimit, TooManyArcs, Overflow, Memory}

-- machines are sorted with their weights or with the values of these
pub IsSorted-valued : {V : Type 0} (value : V → Cost) (a b : Machine V) → IsSorted a b ↔ IsSorted (valued value a) (valued value b)
IsSorted-valued value a b = (there, back) where
  there : IsSorted a b → IsSorted (valued value a) (valued value b)
  there (inl h) = inl ((IsSortedOn-valued value Output a).0 h)
  there (inr h) = inr ((IsSortedOn-valued value Input b).0 h)

  back : IsSorted (valued value a) (valued value b) → IsSorted a b
  back (inl h) = inl ((IsSortedOn-valued value Output a).1 h)
  back (inr h) = inr ((IsSortedOn-valued value Input b).1 h)

-- the machines may not be composed
pub unsorted_exact : {X : Type 0} (kind : ArcType) (a b : Machine Cost) (most : ℕ) → (IsSorted a b → ⊥) → IsExact kind a b most {X = X} (Err NotSorted)
unsorted_exact kind a b most never NotSorted = ((λ e. never), (λ r. refl))
unsorted_exact kind a b most never (StateLimit limit) = ((λ e. absurd (cc)), (λ r. absurd (never r.0)))
unsorted_exact kind a b most never TooManyArcs = ((λ e. absurd (cc)), (λ r. absurd (never r.0)))
unsorted_exact kind a b most never (Overflow place) = ((λ e. absurd (cc)), (λ r. absurd (never r.0)))
unsorted_exact kind a b most never Memory = ((λ e. absurd (cc)), (λ r. absurd r))

module _ (kind : ArcType) (a b : Machine Cost) (most : ℕ) (sorted : IsSorted a b) where
  -- a cause of the walk is one of the composition
  cause_there : (fault : WalkFault) → Stops (composed kind (graph_of a) (graph_of b)) most fault → Refuses kind a b most (cause_of fault)
  cause_there (walk.StateLimit limit) s = (sorted, s.0, s.1)
  cause_there walk.TooManyArcs s = (sorted, s)
  cause_there (walk.Overflow place) s = (sorted, s)

  -- and each other cause is that of a fault of the walk
  cause_back : (fault : ComposeFault) → Refuses kind a b most fault → (from : WalkFault) × (cause_of from ≡ fault) × Stops (composed kind (graph_of a) (graph_of b)) most from
  cause_back NotSorted never = absurd (never sorted)
  cause_back (StateLimit limit) r = (walk.StateLimit limit, refl, (r.1, r.2))
  cause_back TooManyArcs r = (walk.TooManyArcs, refl, r.1)
  cause_back (Overflow place) r = (walk.Overflow place, refl, r.1)
  cause_back Memory r = absurd r

module _ {X Y : Type 0} (kind : ArcType) (a b : Machine Cost) (most : ℕ) (sorted : IsSorted a b) where
  -- the walk makes a machine
  pub made_exact : (x : X) (y : Y) → walked.IsExactly (composed kind (graph_of a) (graph_of b)) {X = X} most (Ok x) → IsExact kind a b most {X = Y} (Ok y)
  made_exact x y h NotSorted = ((λ e. absurd (cc)), (λ never. absurd (never sorted)))
  made_exact x y h (StateLimit limit) = ((λ e. absurd (cc)), (λ r. absurd (let wrong = (h (walk.StateLimit limit)).1 (r.1, r.2) in cc)))
  made_exact x y h TooManyArcs = ((λ e. absurd (cc)), (λ r. absurd (let wrong = (h walk.TooManyArcs).1 r.1 in cc)))
  made_exact x y h (Overflow place) = ((λ e. absurd (cc)), (λ r. absurd (let wrong = (h (walk.Overflow place)).1 r.1 in cc)))
  made_exact x y h Memory = ((λ e. absurd (cc)), (λ r. absurd r))

  -- the walk is stopped
  pub stopped_exact : (stop : WalkFault) → walked.IsExactly (composed kind (graph_of a) (graph_of b)) {X = X} most (Err stop) → IsExact kind a b most {X = Y} (Err (cause_of stop))
  stopped_exact stop h fault = (
    λ e. subst (Refuses kind a b most) (let same : cause_of stop ≡ fault = cc in same) (cause_there kind a b most sorted stop ((h stop).0 refl)),
    λ r.
        let from = cause_back kind a b most sorted fault r in
        let stops : ◌≡◌ {A = Result X WalkFault} (Err stop) (Err from.0) = (h from.0).1 from.2 in
        let same : stop ≡ from.0 = cc in
        ap Err (ap cause_of same ∙ from.1),
  )

-- what holds of a value that was made
pub ok_then : {X E : Type 0} (r : Result X E) (P Q : X → Type 0) → ((x : X) → P x → Q x) → IfOk r P → IfOk r Q
ok_then (Ok x) P Q more h = more x h
ok_then (Err e) P Q more h = h

-- machines of which one has its arcs in order may be composed
pub ordered_sorted : {V : Type 0} (ordered : Ordered) (a b : Machine V) → IsOrdered ordered a b → IsSorted a b
ordered_sorted First a b h = inl h
ordered_sorted Second a b h = inr h
ordered_sorted Both a b h = inl h.0
