-- What a set operation answers, in one statement about all faults.
use Rattle.std.proofs.Common.{◌≡◌, ◌⊎◌, inl, inr, ℕ, Bool, true, false, cond, List, Some, Result, Ok, Err, slice_get, refl, sym, ap, ◌∙◌, subst}
use Rattle.std.specs.Bool.{Decides}
use Rattle.std.specs.List.{All}
use Rattle.std.proofs.lemmas.List.Elements.{All-map}
use Rattle.std.proofs.lemmas.Option.{slice_get-get_or}
use Rattle.fst_semiring.specs.Cost.{Cost, infinite}
use Rattle.fst_semiring.specs.Semiring.{InRange}
use Rattle.fst_semiring.specs.declared.arc_type.ArcType.{ArcType}
use Rattle.fst_machine.specs.Graph.{Graph, graph_of}
use Rattle.fst_machine.specs.Machine.{Arc, Machine, valued}
use Rattle.fst_trim.specs.Sides.{IsSortedOn}
use Rattle.fst_trim.specs.declared.side.Side.TheVariants.{Input, Output}
use Rattle.fst_trim.proofs.Valued.{IsSortedOn-valued}
use Rattle.fst_walk.specs.Answers.{IsOut, Stops}
use Rattle.fst_walk.specs.Answers as walked
use Rattle.fst_walk.specs.declared.fault.WalkFault.{WalkFault}
use Rattle.fst_walk.specs.declared.fault.WalkFault.TheVariants as walk
use Rattle.fst_compose.specs.Answers.{IsSorted, Refuses}
use Rattle.fst_compose.specs.Answers as composed
use Rattle.fst_compose.specs.declared.fault.ComposeFault.{ComposeFault}
use Rattle.fst_compose.specs.declared.fault.ComposeFault.TheVariants as compositions
use Rattle.fst_setops.specs.Answers.{AreAcceptors, AreSubtractable, IsCause, IsExactly, RefusesDifference, RefusesIntersection, cause_of}
use Rattle.fst_setops.specs.Difference.{difference, is_final, rest_arc}
use Rattle.fst_setops.specs.declared.fault.DifferenceFault.{DifferenceFault}
use Rattle.fst_setops.specs.declared.fault.DifferenceFault.TheVariants as differences
use Rattle.fst_setops.specs.declared.fault.IntersectFault.{IntersectFault}
use Rattle.fst_setops.specs.declared.fault.IntersectFault.TheVariants as intersections
use Rattle.fst_setops.proofs.OneAnswer.{one_difference, one_intersection, unsplit}

module _ {F X : Type 0} (Refused : F → Type 0) (memory : F) where
  -- memory has run out
  pub memory_exactly : IsExactly {X = X} Refused memory (Err memory)
  memory_exactly fault = ((λ e. inr (let same : memory ≡ fault = cc in sym same)), (λ r. inr refl))

  -- a fault stands against the operation, and no other does
  pub refused_exactly : (f : F) → Refused f → ((h : F) → Refused h → f ≡ h) → IsExactly {X = X} Refused memory (Err f)
  refused_exactly f stands one fault = ((λ e. inl (subst Refused (let same : f ≡ fault = cc in same) stands)), (λ r. inl (ap Err (one fault r))))

  -- none does
  pub made_exactly : (x : X) → ((h : F) → Refused h → ⊥) → IsExactly {X = X} Refused memory (Ok x)
  made_exactly x none fault = ((λ e. absurd (cc)), (λ r. absurd (none fault r)))

module _ (kind : ArcType) (a b : Machine Cost) (most : ℕ) where
  -- ---- intersection

  -- a fault that stands against the composition of acceptors stands against their intersection
  stands_too : AreAcceptors a b → (fault : ComposeFault) → Refuses kind a b most fault → RefusesIntersection kind a b most (cause_of fault)
  stands_too both compositions.NotSorted r = r
  stands_too both (compositions.StateLimit limit) r = (both, r)
  stands_too both compositions.TooManyArcs r = (both, r)
  stands_too both (compositions.Overflow place) r = (both, r)
  stands_too both compositions.Memory r = absurd r

  -- and what stands against their intersection stands against their composition
  stands_there : AreAcceptors a b → (f : IntersectFault) → RefusesIntersection kind a b most f → (fault : ComposeFault) × Refuses kind a b most fault
  stands_there both intersections.NotSorted r = (compositions.NotSorted, r)
  stands_there both (intersections.NotAcceptor second state place) r = absurd (unsplit a b second state place r.1 both)
  stands_there both (intersections.StateLimit limit) r = (compositions.StateLimit limit, r.1)
  stands_there both intersections.TooManyArcs r = (compositions.TooManyArcs, r.1)
  stands_there both (intersections.Overflow place) r = (compositions.Overflow place, r.1)
  stands_there both intersections.Memory r = absurd r

  pub refuses_intersection : {X : Type 0} (f : IntersectFault) → RefusesIntersection kind a b most f → IsExactly {X = X} (RefusesIntersection kind a b most) intersections.Memory (Err f)
  refuses_intersection f r = refused_exactly (RefusesIntersection kind a b most) intersections.Memory f r (λ h s. one_intersection a b kind most f h r s)

  module _ {X Y : Type 0} (both : AreAcceptors a b) where
    -- the machines are composed
    pub composed_exactly : (x : X) (y : Y) → composed.IsExactly kind a b most {X = X} (Ok x) → IsExactly {X = Y} (RefusesIntersection kind a b most) intersections.Memory (Ok y)
    composed_exactly x y exact = made_exactly (RefusesIntersection kind a b most) intersections.Memory y none
      where
        never : (fault : ComposeFault) → (◌≡◌ {A = Result X ComposeFault} (Ok x) (Err fault)) ⊎ (◌≡◌ {A = Result X ComposeFault} (Ok x) (Err compositions.Memory)) → ⊥
        never fault (inl e) = cc
        never fault (inr e) = cc

        none : (h : IntersectFault) → RefusesIntersection kind a b most h → ⊥
        none h r = let from = stands_there both h r in never from.0 ((exact from.0).1 from.1)

    -- or they are not
    pub uncomposed_exactly : (fault : ComposeFault) → composed.IsExactly kind a b most {X = X} (Err fault) → IsExactly {X = Y} (RefusesIntersection kind a b most) intersections.Memory (Err (cause_of fault))
    uncomposed_exactly fault exact = by_cause ((exact fault).0 refl)
      where
        by_cause : Refuses kind a b most fault ⊎ (fault ≡ compositions.Memory) → IsExactly {X = Y} (RefusesIntersection kind a b most) intersections.Memory (Err (cause_of fault))
        by_cause (inl r) = refuses_intersection (cause_of fault) (stands_too both fault r)
        by_cause (inr e) = subst (λ (f : ComposeFault). IsExactly {X = Y} (RefusesIntersection kind a b most) intersections.Memory (Err (cause_of f))) (sym e) (memory_exactly (RefusesIntersection kind a b most) intersections.Memory)

  -- ---- difference

  pub refuses_difference : {X : Type 0} (f : DifferenceFault) → RefusesDifference kind a b most f → IsExactly {X = X} (RefusesDifference kind a b most) differences.Memory (Err f)
  refuses_difference f r = refused_exactly (RefusesDifference kind a b most) differences.Memory f r (λ h s. one_difference a b kind most f h r s)

  module _ (fit : AreSubtractable kind a b) where
    -- what stops the walk stands against the difference
    stops_there : (fault : WalkFault) (f : DifferenceFault) → IsCause fault f → Stops (difference (graph_of a) (graph_of b)) most fault → RefusesDifference kind a b most f
    stops_there (walk.StateLimit limit) f is stops = subst (RefusesDifference kind a b most) (sym is) (fit, stops.0, stops.1)
    stops_there walk.TooManyArcs f is stops = subst (RefusesDifference kind a b most) (sym is) (fit, stops)
    stops_there (walk.Overflow place) f is stops = absurd is

    -- and what stands against the difference stops the walk
    stops_back : (f : DifferenceFault) → RefusesDifference kind a b most f → (fault : WalkFault) × Stops (difference (graph_of a) (graph_of b)) most fault
    stops_back (differences.NotAcceptor second state place) r = absurd (unsplit a b second state place r fit.acceptors)
    stops_back (differences.NotDeterministic state place) r = absurd (fit.deterministic state place r.1.0)
    stops_back (differences.HasEpsilon state place) r = absurd (fit.free state place r.2.0)
    stops_back (differences.NotUnweighted state) r = absurd (fit.unweighted state r.3.0)
    stops_back (differences.StateLimit limit) r = (walk.StateLimit limit, (r.1, r.2))
    stops_back differences.TooManyArcs r = (walk.TooManyArcs, r.1)
    stops_back differences.Memory r = absurd r

    module _ {X Y : Type 0} where
      -- the walk makes a machine
      pub walked_exactly : (x : X) (y : Y) → walked.IsExactly (difference (graph_of a) (graph_of b)) {X = X} most (Ok x) → IsExactly {X = Y} (RefusesDifference kind a b most) differences.Memory (Ok y)
      walked_exactly x y exact = made_exactly (RefusesDifference kind a b most) differences.Memory y (λ h r. let from = stops_back h r in let wrong : ◌≡◌ {A = Result X WalkFault} (Ok x) (Err from.0) = (exact from.0).1 from.1 in cc)

      -- the walk is stopped
      pub stopped_exactly : (stop : WalkFault) (f : DifferenceFault) → IsCause stop f → walked.IsExactly (difference (graph_of a) (graph_of b)) {X = X} most (Err stop) → IsExactly {X = Y} (RefusesDifference kind a b most) differences.Memory (Err f)
      stopped_exactly stop f is exact = refuses_difference f (stops_there stop f is ((exact stop).0 refl))

-- no weight of a difference is out of range, where those of the first machine are not
module _ {N M : Type 0} (a : Graph N) (b : Graph M) where
  all_at : {X : Type 0} (P : X → Type 0) (xs : List X) → ((k : ℕ) (x : X) → slice_get xs k ≡ Some x → P x) → All P xs
  all_at P xs each k d low = each k _ (slice_get-get_or xs k d low)

  pub never_out : ((p : N) (k : ℕ) (x : Arc Cost N) → slice_get (a.arcs p) k ≡ Some x → InRange x.weight) → ((p : N) → InRange (a.final p)) → (most place : ℕ) → IsOut (difference a b) most place → ⊥
  never_out arcs finals most place h =
      let n = h.out.name in
      h.out.out (
        All-map (λ (x : Arc Cost _). InRange x.weight) (rest_arc b n.second) (a.arcs n.first) (all_at (λ (x : Arc Cost N). InRange x.weight) (a.arcs n.first) (arcs n.first)),
        in_range (is_final b n.second) (a.final n.first) (finals n.first),
      )
    where
      in_range : (t : Bool) (w : Cost) → InRange w → InRange (cond t infinite w)
      in_range true w h = tt
      in_range false w h = h

-- whether two machines may be composed
module _ {V : Type 0} (value : V → Cost) (a b : Machine V) where
  pub one_sorted : (r : Bool) → Decides r (IsSortedOn Output a) → r ≡ true → Decides r (IsSorted (valued value a) (valued value b))
  one_sorted r first is = ((λ e. inl ((IsSortedOn-valued value Output a).0 (first.0 e))), (λ h. is))

  pub other_sorted : (r s : Bool) → Decides r (IsSortedOn Output a) → Decides s (IsSortedOn Input b) → r ≡ false → Decides s (IsSorted (valued value a) (valued value b))
  other_sorted r s first second is = ((λ e. inr ((IsSortedOn-valued value Input b).0 (second.0 e))), by_machine)
    where
      by_machine : IsSorted (valued value a) (valued value b) → s ≡ true
      by_machine (inl h) = absurd (let wrong : true ≡ false = sym (first.1 ((IsSortedOn-valued value Output a).1 h)) ∙ is in cc)
      by_machine (inr h) = second.1 ((IsSortedOn-valued value Input b).1 h)

-- the answer of a walk, where just its machine is handed on
module _ {X Y N : Type 0} (g : Graph N) (most : ℕ) where
  pub machine_alone : (x : X) (y : Y) → walked.IsExactly g {X = X} most (Ok x) → walked.IsExactly g {X = Y} most (Ok y)
  machine_alone x y exact fault = ((λ e. absurd (cc)), (λ r. absurd (let wrong : ◌≡◌ {A = Result X WalkFault} (Ok x) (Err fault) = (exact fault).1 r in cc)))

  pub fault_alone : (stop : WalkFault) → walked.IsExactly g {X = X} most (Err stop) → walked.IsExactly g {X = Y} most (Err stop)
  fault_alone stop exact fault = (
    (λ e. (exact fault).0 (let same : stop ≡ fault = cc in ap Err same)),
    (λ r. let stops : ◌≡◌ {A = Result X WalkFault} (Err stop) (Err fault) = (exact fault).1 r in let same : stop ≡ fault = cc in ap Err same),
  )
